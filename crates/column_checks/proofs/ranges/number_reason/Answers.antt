-- Each kind's range is the definition's; a kind past the last has the range 0 alone.
use mathlib.Core.Path.{◌≡◌}
use native.Mathlib.Omega.{arith}
use lib.IntN.{pos}
use lib.ListN.{get_or-eq_default}
use Rattle.column_checks.specs.ColumnKinds.{lowests, highests}
use Rattle.column_checks.proofs.ReasonLaws.{above}
use Rattle.column_checks.proofs.ranges.number_reason.Goals as goal

pub returns-in-1 : goal.returns-in-1
unfolding lowests highests
returns-in-1 c = let e : c.args.kind ≡ 1 = omega arith in rw e c.range_reason.ensures

pub returns-in-2 : goal.returns-in-2
unfolding lowests highests
returns-in-2 c = let e : c.args.kind ≡ 2 = omega arith in rw e c.range_reason-in-2.ensures

pub returns-in-3 : goal.returns-in-3
unfolding lowests highests
returns-in-3 c = let e : c.args.kind ≡ 3 = omega arith in rw e c.range_reason-in-3.ensures

pub returns-in-4 : goal.returns-in-4
unfolding lowests highests
returns-in-4 c = let e : c.args.kind ≡ 4 = omega arith in rw e c.range_reason-in-4.ensures

pub returns-in-5 : goal.returns-in-5
unfolding lowests highests
returns-in-5 c = let e : c.args.kind ≡ 5 = omega arith in rw e c.range_reason-in-5.ensures

pub returns-in-6 : goal.returns-in-6
unfolding lowests highests
returns-in-6 c = let e : c.args.kind ≡ 6 = omega arith in rw e c.range_reason-in-6.ensures

pub returns-in-7 : goal.returns-in-7
unfolding lowests highests
returns-in-7 c = let e : c.args.kind ≡ 7 = omega arith in rw e c.range_reason-in-7.ensures

pub returns-in-8 : goal.returns-in-8
unfolding lowests highests
returns-in-8 c = let e : c.args.kind ≡ 8 = omega arith in rw e c.range_reason-in-8.ensures

pub returns-in-9 : goal.returns-in-9
unfolding lowests highests
returns-in-9 c = let e : c.args.kind ≡ 9 = omega arith in rw e c.range_reason-in-9.ensures

pub returns-in-10 : goal.returns-in-10
unfolding lowests highests
returns-in-10 c = let e : c.args.kind ≡ 10 = omega arith in rw e c.range_reason-in-10.ensures

pub returns-in-11 : goal.returns-in-11
unfolding lowests highests
returns-in-11 c = let e : c.args.kind ≡ 11 = omega arith in rw e c.range_reason-in-11.ensures

pub returns-in-12 : goal.returns-in-12
unfolding lowests highests
returns-in-12 c = let e : c.args.kind ≡ 12 = omega arith in rw e c.range_reason-in-12.ensures

pub returns-in-13 : goal.returns-in-13
unfolding lowests highests
returns-in-13 c = let e : c.args.kind ≡ 13 = omega arith in rw e c.range_reason-in-13.ensures

pub returns-in-14 : goal.returns-in-14
unfolding lowests highests
returns-in-14 c = let e : c.args.kind ≡ 14 = omega arith in rw e c.range_reason-in-14.ensures

pub returns-in-15 : goal.returns-in-15
unfolding lowests highests
returns-in-15 c = let e : c.args.kind ≡ 15 = omega arith in rw e c.range_reason-in-15.ensures

pub returns-in-16 : goal.returns-in-16
unfolding lowests highests
returns-in-16 c = let e : c.args.kind ≡ 16 = omega arith in rw e c.range_reason-in-16.ensures

pub returns-in-17 : goal.returns-in-17
unfolding lowests highests
returns-in-17 c = let e : c.args.kind ≡ 17 = omega arith in rw e c.range_reason-in-17.ensures

pub returns-in-18 : goal.returns-in-18
unfolding lowests highests
returns-in-18 c = let e : c.args.kind ≡ 18 = omega arith in rw e c.range_reason-in-18.ensures

pub returns-in_default : goal.returns-in_default
unfolding lowests highests
returns-in_default c = let a1 = above 1 c.requires c.in_default.in_default-own.rest.0.0.0.0.0.0.0.0.0.0.0.0.0.0.0.0.0.1 in
    let a2 = above 2 a1 c.in_default.in_default-own.rest.0.0.0.0.0.0.0.0.0.0.0.0.0.0.0.0.1 in
    let a3 = above 3 a2 c.in_default.in_default-own.rest.0.0.0.0.0.0.0.0.0.0.0.0.0.0.0.1 in
    let a4 = above 4 a3 c.in_default.in_default-own.rest.0.0.0.0.0.0.0.0.0.0.0.0.0.0.1 in
    let a5 = above 5 a4 c.in_default.in_default-own.rest.0.0.0.0.0.0.0.0.0.0.0.0.0.1 in
    let a6 = above 6 a5 c.in_default.in_default-own.rest.0.0.0.0.0.0.0.0.0.0.0.0.1 in
    let a7 = above 7 a6 c.in_default.in_default-own.rest.0.0.0.0.0.0.0.0.0.0.0.1 in
    let a8 = above 8 a7 c.in_default.in_default-own.rest.0.0.0.0.0.0.0.0.0.0.1 in
    let a9 = above 9 a8 c.in_default.in_default-own.rest.0.0.0.0.0.0.0.0.0.1 in
    let a10 = above 10 a9 c.in_default.in_default-own.rest.0.0.0.0.0.0.0.0.1 in
    let a11 = above 11 a10 c.in_default.in_default-own.rest.0.0.0.0.0.0.0.1 in
    let a12 = above 12 a11 c.in_default.in_default-own.rest.0.0.0.0.0.0.1 in
    let a13 = above 13 a12 c.in_default.in_default-own.rest.0.0.0.0.0.1 in
    let a14 = above 14 a13 c.in_default.in_default-own.rest.0.0.0.0.1 in
    let a15 = above 15 a14 c.in_default.in_default-own.rest.0.0.0.1 in
    let a16 = above 16 a15 c.in_default.in_default-own.rest.0.0.1 in
    let a17 = above 17 a16 c.in_default.in_default-own.rest.0.1 in
    let a18 = above 18 a17 c.in_default.in_default-own.rest.1 in
    rw (get_or-eq_default lowests (pos 0) a18, get_or-eq_default highests (pos 0) a18) c.range_reason-in_default.ensures
