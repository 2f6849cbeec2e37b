-- A row's symbols say what its facts say.
use mathlib.Core.Path.{◌≡◌, refl, sym}
use mathlib.Core.Bool.{true, false}
use mathlib.Core.List.{List, [], ◌∷◌, map, Memᴰ}
use Prim.Native.Nat.{ℕ, ◌<◌}
use Rattle.std.specs.Prelude.{is_some}
use lib.Dec.{eqb}
use lib.ListN.{get_or, drop}
use Rattle.laws.specs.Lists.{keep}
use Rattle.laws.proofs.Cases.{false≢true}
use Rattle.lines.specs.Lines.{Line}
use Rattle.schemas.specs.declared.Table.{Table}
use Rattle.verdicts.specs.Key.{Key}
use Rattle.verdicts.specs.Facts.{Naming, Count, Facts}
use Rattle.verdicts.specs.Entries.{reading_of, own, facts_in}
use Rattle.key_symbols.specs.Keyed.{symbol_of, space_of}
use Rattle.row_keys.specs.Parts.{key_in, is_named}
use Rattle.keys.specs.Ranks.{parameters, rank}
use Rattle.manners.specs.Manners.{manners, manner_at}
use Rattle.keys.specs.Held.{slot_of, named_of, count_of, keys_of, row_keys_of}
use Rattle.key_symbols.specs.Bounded.{Bounded}
use Rattle.keys.specs.Says.{given_in, of_naming, of_named, of_count, counted_in, Says}
use Rattle.manners.proofs.MarkLaws.{marked}
use Rattle.keys.proofs.Fitting.{All, all_mem, LowerFirst, Listed, KeysFit, NamesFit, CountsFit, GroupsFit, Fits}
use Rattle.keys.proofs.RowLaws.{row_fits}

-- keys

keys_said : (l : List Key) → KeysFit l → map symbol_of l ≡ given_in (slot_of l ∷ slot_of (drop 1 l) ∷ [])
unfolding slot_of
keys_said [] h = refl
keys_said (k ∷ []) h = refl
keys_said (k ∷ l ∷ []) h = refl
keys_said (k ∷ l ∷ m ∷ ms) h = absurd h

keys_all : (l : List Key) → KeysFit l → All Bounded l
keys_all [] h = tt
keys_all (k ∷ []) h = (h, tt)
keys_all (k ∷ l ∷ []) h = (h.0, (h.1, tt))
keys_all (k ∷ l ∷ m ∷ ms) h = absurd h

keys_apart : (l : List Key) → KeysFit l → is_some (slot_of l) ≡ true → is_some (slot_of (drop 1 l)) ≡ true
    → (key_in (slot_of l)).space ≡ (key_in (slot_of (drop 1 l))).space → ⊥
unfolding slot_of
keys_apart [] h a b e = absurd (false≢true a)
keys_apart (k ∷ []) h a b e = absurd (false≢true b)
keys_apart (k ∷ l ∷ []) h a b e = h.2 e
keys_apart (k ∷ l ∷ m ∷ ms) h a b e = absurd h

keys_level : (l : List Key) → KeysFit l → is_some (slot_of (drop 1 l)) ≡ true → rank (key_in (slot_of (drop 1 l))).space ≡ rank (key_in (slot_of l)).space
unfolding slot_of
keys_level [] h b = absurd (false≢true b)
keys_level (k ∷ []) h b = absurd (false≢true b)
keys_level (k ∷ l ∷ []) h b = h.3
keys_level (k ∷ l ∷ m ∷ ms) h b = absurd h

-- namings

lower_first : (n : Naming) (ks : List Key) → LowerFirst n ks → n.chained ≡ false → rank (space_of n.key) < rank (key_in (slot_of ks)).space
unfolding slot_of
lower_first n [] h e = absurd h
lower_first n (k ∷ ks) h e = h.down e

along_first : (n : Naming) (ks : List Key) → LowerFirst n ks → n.chained ≡ true
    → (space_of n.key ≡ parameters) × ((key_in (slot_of ks)).space ≡ parameters)
unfolding slot_of
along_first n [] h e = absurd h
along_first n (k ∷ ks) h e = h.along e

first_given : (n : Naming) (ks : List Key) → LowerFirst n ks → is_some (slot_of ks) ≡ true
unfolding slot_of
first_given n [] h = absurd h
first_given n (k ∷ ks) h = refl

module _ (keys : List Key) where
  names_said : (l : List Naming) → NamesFit keys l → map of_naming l ≡ map of_named (keep is_named (named_of l ∷ named_of (drop 1 l) ∷ []))
  unfolding named_of
  names_said [] h = refl
  names_said (n ∷ []) h = rw (h.coded, h.decoded)
  names_said (n ∷ m ∷ []) h = rw (h.0.coded, h.1.coded, h.0.decoded, h.1.decoded)
  names_said (n ∷ m ∷ o ∷ os) h = absurd h

  names_all : (l : List Naming) → NamesFit keys l → All (Listed keys) l
  names_all [] h = tt
  names_all (n ∷ []) h = (h, tt)
  names_all (n ∷ m ∷ []) h = (h.0, (h.1, tt))
  names_all (n ∷ m ∷ o ∷ os) h = absurd h

  names_hold : (l : List Naming) → NamesFit keys l → is_named (named_of l) ≡ true → is_some (slot_of keys) ≡ true
  unfolding named_of
  names_hold [] h e = absurd (false≢true e)
  names_hold (n ∷ []) h e = first_given n keys h.lower
  names_hold (n ∷ m ∷ []) h e = first_given n keys h.0.lower
  names_hold (n ∷ m ∷ o ∷ os) h e = absurd h

  names_chain : (l : List Naming) → NamesFit keys l → (manner_at (named_of (drop 1 l)).code).chained ≡ false
  unfolding named_of manners manner_at
  names_chain [] h = refl
  names_chain (n ∷ []) h = refl
  names_chain (n ∷ m ∷ []) h = rw h.1.decoded h.2
  names_chain (n ∷ m ∷ o ∷ os) h = absurd h

-- counts

module _ (v : ℕ) (f : Facts) where
  counts_said : (ks : List Key) (cs : List Count) → CountsFit cs ks → f.keys ≡ ks → f.counts ≡ cs → map of_count cs ≡ counted_in (keys_of v f)
  unfolding keys_of slot_of count_of
  counts_said ks [] h p q = rw q
  counts_said [] (c ∷ []) h p q = absurd h
  counts_said (k ∷ ks) (c ∷ []) h p q = rw (p, q, h.1, h.0)
  counts_said ks (c ∷ d ∷ cs) h p q = absurd h

counts_hold : (ks : List Key) (cs : List Count) → CountsFit cs ks → eqb (count_of cs).column 0 ≡ false → is_some (slot_of ks) ≡ true
unfolding slot_of count_of
counts_hold ks [] h e = absurd (false≢true (sym e))
counts_hold [] (c ∷ []) h e = absurd h
counts_hold (k ∷ ks) (c ∷ []) h e = refl
counts_hold ks (c ∷ d ∷ cs) h e = absurd h

counts_all : (ks : List Key) (cs : List Count) → CountsFit cs ks → All (λ c. Bounded c.group) cs
counts_all ks [] h = tt
counts_all [] (c ∷ []) h = absurd h
counts_all (k ∷ ks) (c ∷ []) h = (rw h.0 h.2, tt)
counts_all ks (c ∷ d ∷ cs) h = absurd h

-- groups

groups_said : (l : List Key) → GroupsFit l → map symbol_of l ≡ given_in (slot_of l ∷ [])
unfolding slot_of
groups_said [] h = refl
groups_said (g ∷ []) h = refl
groups_said (g ∷ k ∷ gs) h = absurd h

groups_all : (l : List Key) → GroupsFit l → All Bounded l
groups_all [] h = tt
groups_all (g ∷ []) h = (h, tt)
groups_all (g ∷ k ∷ gs) h = absurd h

module _ (v : ℕ) (f : Facts) (h : Fits f) where
  naming_at : (n : Naming) → Memᴰ n f.names → Listed f.keys n
  naming_at n m = all_mem (Listed f.keys) (names_all f.keys f.names h.names) m

  pub fits_say : Says f (keys_of v f)
  unfolding keys_of
  fits_say =
      record {
        keys = keys_said f.keys h.keys;
        names = names_said f.keys f.names h.names;
        counts = counts_said v f f.keys f.counts h.counts refl refl;
        groups = groups_said f.groups h.groups;
        meets = marked f.meets;
        names_hold = names_hold f.keys f.names h.names;
        counts_hold = counts_hold f.keys f.counts h.counts;
        apart = keys_apart f.keys h.keys;
        level = keys_level f.keys h.keys;
        below = λ n m. lower_first n f.keys (naming_at n m).lower;
        chain = λ n m. along_first n f.keys (naming_at n m).lower;
        chain_first = names_chain f.keys f.names h.names;
        keys_bounded = λ k m. all_mem Bounded (keys_all f.keys h.keys) m;
        names_bounded = λ n m. (naming_at n m).bounded;
        counts_bounded = λ c m. all_mem (λ c. Bounded c.group) (counts_all f.keys f.counts h.counts) m;
        groups_bounded = λ k m. all_mem Bounded (groups_all f.groups h.groups) m;
      }

-- the verdict of reasons 1 to 8 is the row's own
pub row_verdict_lem : (t : Table) (line : Line) → (row_keys_of t line).verdict ≡ own (reading_of t line)
unfolding row_keys_of keys_of
row_verdict_lem t line = refl

-- every row's symbols say its facts
pub row_says : (t : Table) (line : Line) → ((i : ℕ) → get_or line.bytes i 0 < 256) → Says (facts_in (reading_of t line)) (row_keys_of t line)
unfolding row_keys_of
row_says t line h = fits_say (own (reading_of t line)) (facts_in (reading_of t line)) (row_fits t line h)
