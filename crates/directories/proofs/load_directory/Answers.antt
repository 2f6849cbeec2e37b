-- No table, or those that were read.
use Rattle.std.proofs.Common.{refl, inl, inr}
use Rattle.directories.proofs.load_directory.Goals as goal

pub returns-in-Some : goal.returns-in-Some
returns-in-Some g c = inl (refl, refl)

pub returns-then-not-loaded : goal.returns-then-not-loaded
returns-then-not-loaded g c = inr c.load-loaded.ensures

pub returns-else-not-loaded : goal.returns-else-not-loaded
returns-else-not-loaded g c = inr c.load-loaded.ensures
