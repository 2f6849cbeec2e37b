-- Each kind's letters are a part of the constant; a kind past the last has none.
use mathlib.Core.Path.{◌≡◌}
use native.Mathlib.Omega.{arith}
use Rattle.column_checks.specs.ColumnReasons.{is_in}
use Rattle.column_checks.specs.ColumnKinds.{all_letters, letters_at}
use Rattle.column_checks.proofs.ReasonLaws.{above, letters_none}
use Rattle.column_checks.proofs.letters.is_letter.Goals as goal

pub returns-in-128 : goal.returns-in-128
unfolding letters_at all_letters
returns-in-128 c = let e : c.args.kind ≡ 128 = omega arith in rw e c.is_among.ensures

pub returns-in-129 : goal.returns-in-129
unfolding letters_at all_letters
returns-in-129 c = let e : c.args.kind ≡ 129 = omega arith in rw e c.is_among-in-129.ensures

pub returns-in-130 : goal.returns-in-130
unfolding letters_at all_letters
returns-in-130 c = let e : c.args.kind ≡ 130 = omega arith in rw e c.is_among-in-130.ensures

pub returns-in-131 : goal.returns-in-131
unfolding letters_at all_letters
returns-in-131 c = let e : c.args.kind ≡ 131 = omega arith in rw e c.is_among-in-131.ensures

pub returns-in-132 : goal.returns-in-132
unfolding letters_at all_letters
returns-in-132 c = let e : c.args.kind ≡ 132 = omega arith in rw e c.is_among-in-132.ensures

pub returns-in-133 : goal.returns-in-133
unfolding letters_at all_letters
returns-in-133 c = let e : c.args.kind ≡ 133 = omega arith in rw e c.is_among-in-133.ensures

pub returns-in-134 : goal.returns-in-134
unfolding letters_at all_letters
returns-in-134 c = let e : c.args.kind ≡ 134 = omega arith in rw e c.is_among-in-134.ensures

pub returns-in-135 : goal.returns-in-135
unfolding letters_at all_letters
returns-in-135 c = let e : c.args.kind ≡ 135 = omega arith in rw e c.is_among-in-135.ensures

pub returns-in-136 : goal.returns-in-136
unfolding letters_at all_letters
returns-in-136 c = let e : c.args.kind ≡ 136 = omega arith in rw e c.is_among-in-136.ensures

pub returns-in_default : goal.returns-in_default
unfolding is_in
returns-in_default c = let a128 = above 128 c.requires c.in_default.in_default-own.rest.0.0.0.0.0.0.0.0.1 in
    let a129 = above 129 a128 c.in_default.in_default-own.rest.0.0.0.0.0.0.0.1 in
    let a130 = above 130 a129 c.in_default.in_default-own.rest.0.0.0.0.0.0.1 in
    let a131 = above 131 a130 c.in_default.in_default-own.rest.0.0.0.0.0.1 in
    let a132 = above 132 a131 c.in_default.in_default-own.rest.0.0.0.0.1 in
    let a133 = above 133 a132 c.in_default.in_default-own.rest.0.0.0.1 in
    let a134 = above 134 a133 c.in_default.in_default-own.rest.0.0.1 in
    let a135 = above 135 a134 c.in_default.in_default-own.rest.0.1 in
    let a136 = above 136 a135 c.in_default.in_default-own.rest.1 in
    rw (letters_none _ a136)
