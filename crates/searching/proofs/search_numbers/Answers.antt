-- The entry that the search finds is the row's number.
use borrow.Author.Rules.{rules}
use borrow.Author.Tests.{not-true, not-false}
use Prim.Native.Nat.{◌<◌}
use Rattle.searching.specs.Search.{identity_in}
use Rattle.searching.proofs.SearchingLaws.{none_found, entry_from, entry_found}
use Rattle.searching.proofs.search_numbers.Goals as goal

pub returns-then-not-searched : goal.returns-then-not-searched
unfolding identity_in
returns-then-not-searched c = none_found _ _ _ _ _ _ c.search_index-searched.ensures (not-true _ c.if-not-searched.true)

pub overflow_sub-entry : goal.overflow_sub-entry
overflow_sub-entry c =
    let from : 0 < c.half_at-entry.result = rw c.half_at-entry.ensures
    (entry_from _ _ _ _ _ _ c.requires c.search_index-searched.ensures (not-false _ c.if-not-searched.false)) in
    let f = from in search rules

pub returns : goal.returns
unfolding identity_in
returns c = rw c.half_at-entry.ensures
    (entry_found _ _ _ _ _ _ c.requires c.search_index-searched.ensures (not-false _ c.if-not-searched.false)
    (rw c.half_at-entry.ensures at c.spid_at-spid.ensures))
