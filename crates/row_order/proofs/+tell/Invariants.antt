use Rattle.row_order.proofs.+tell.Given as goal

-- the steps that are left
abbrev pub decreases-tell : goal.decreases-tell
decreases-tell l = l.steps
