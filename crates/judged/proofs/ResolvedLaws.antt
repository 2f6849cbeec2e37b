-- Where the arrays hold the rows, what the passes find resolves them: so their verdicts are the definition's.
use mathlib.Core.Path.{◌≡◌, refl, ap, sym, subst, ◌∙◌}
use mathlib.Core.Bool.{Bool, true, false, cond, ◌&&◌}
use mathlib.Core.List.{List, [], ◌∷◌, ◌++◌, map, Memᴰ}
use Prim.Native.Nat.{ℕ, zero, suc, ◌≤◌, ◌<◌, min}
use native.Mathlib.Omega.{arith}
use lib.Dec.{eqb, ltb, leb}
use lib.ListN.{length, get_or, drop}
use borrow.Author.Tests.{ne_eqb, eqb-true, ltb-true, ltb-false, leb-true}
use Rattle.laws.specs.Lists.{or_else, first}
use Rattle.laws.specs.Prefix.{flag}
use Rattle.laws.proofs.Cases.{bool_cases, false≢true, and_left, and_right}
use Rattle.laws.proofs.Tests.{keep_length}
use Rattle.arrays.specs.Room.{most_places}
use Rattle.schemas.specs.Reasons.{reason_at}
use Rattle.symbols.specs.declared.Symbol.{Symbol}
use Rattle.symbols.specs.Symbols.{no_id, id_of}
use Rattle.symbols.specs.Arrays.{symbols}
use Rattle.verdicts.specs.Key.{Key}
use Rattle.verdicts.specs.Facts.{Naming, Count, Facts}
use Rattle.verdicts.specs.Entries.{Entry, own, facts}
use Rattle.verdicts.specs.Steps.{belongs}
use Rattle.verdicts.specs.Verdicts.{sound, tally, count_cell}
use Rattle.chain_steps.specs.Chains.{no_row}
use Rattle.key_symbols.specs.Keyed.{symbol_of}
use Rattle.keys.specs.Ranks.{parameters, rank, ranks}
use Rattle.manners.specs.Manners.{manner_of, manner_at, code_of, marks_of}
use Rattle.key_symbols.specs.Bounded.{Bounded}
use Rattle.keys.specs.Says.{rank_in, Says}
use Rattle.keys.specs.Held.{slot_of, named_of, count_of as countingOf, keys_of}
use Rattle.keys.proofs.Fitting.{Listed, NamesFit, CountsFit}
use Rattle.manners.proofs.MarkLaws.{marked}
use Rattle.keys.proofs.SaysLaws.{fits_say}
use Rattle.keys.proofs.RankLaws.{names_lower, chain_level}
use Rattle.meaning.specs.Kept.{Known, kept_entry}
use Rattle.meaning.specs.Found.{Finds}
use Rattle.judging.proofs.Resolved.{Answers, Named, absent, present, names_in, Names, Arrays, Resolved}
use Rattle.judging.proofs.CircleMeaning.{no_code}
use Rattle.kept.specs.Stored.{at, own_column, key1_column, name1_column, name2_column, kept_number_column, code1_column, code2_column, marks_column, count_column, slot_id, named_id, keys_at}
use Rattle.findings.specs.Found.{row_linked, count_finding}
use Rattle.judged.specs.Passes.{column_of}
use Rattle.judged.proofs.Held.{coding, Held, column_at_lem}
use Rattle.judged.proofs.KeptLaws.{own_kept}
use Rattle.judged.proofs.NamedLaws.{names_are}

-- every number of a list is at most m
abbrev most : ℕ → List ℕ → Bool
most m [] = true
most m (x ∷ l) = leb x m && most m l

most_at : (m : ℕ) (l : List ℕ) (i : ℕ) → most m l ≡ true → get_or l i 0 ≤ m
most_at m [] i e = omega arith
most_at m (x ∷ l) zero e = leb-true x m (and_left (leb x m) (most m l) e)
most_at m (x ∷ l) (suc i) e = most_at m l i (and_right (leb x m) (most m l) e)

-- a rank is at most 3
rank_most : (s : ℕ) → rank s ≤ 3
unfolding rank ranks
rank_most s = most_at 3 ranks s refl

parameters_rank : rank parameters ≡ 1
unfolding rank ranks
parameters_rank = refl

-- what the passes leave
pub record Passed (rows : List Entry) (ls : List Symbol) (halves bytes sounds holders tallies found1 found2 counts : List ℕ) : Type 0 where
  pub sound_at : (i : ℕ) → i < length rows → get_or sounds i 0 ≡ flag (sound rows (kept_entry rows i))
  pub short : length sounds ≤ most_places
  pub finds : (k : Key) → Bounded k → Finds rows k (get_or holders (id_of (symbol_of k) ls) 0)
  pub tally_at : (g : Key) → Known coding ls g → get_or tallies (id_of (symbol_of g) ls) 0 ≡ tally rows g
  pub one : (i : ℕ) → i < length rows → get_or found1 i no_row ≡ row_linked (get_or holders (at halves name1_column i) 0)
  pub two : (i : ℕ) → i < length rows → get_or found2 i no_row ≡ row_linked (get_or holders (at halves name2_column i) 0)
  pub counted : (i : ℕ) → i < length rows
      → get_or counts i 0 ≡ count_finding (at bytes count_column i) (at halves kept_number_column i) (get_or tallies (at halves key1_column i) 0)

module _ (rows : List Entry) (words links : List ℕ) (count : ℕ) (halves bytes : List ℕ) (h : Held rows words links count halves bytes)
    (sounds holders tallies found1 found2 counts : List ℕ)
    (v : Passed rows (symbols words count) halves bytes sounds holders tallies found1 found2 counts) where
  abbrev ls : List Symbol
  ls = symbols words count

  abbrev facts_at : ℕ → Facts
  facts_at i = facts (kept_entry rows i)

  unfoldable pub arrays : Arrays
  arrays =
      record {
        own = column_of halves own_column;
        sound = sounds;
        counts = counts;
        codes1 = column_of bytes code1_column;
        found1 = found1;
        codes2 = column_of bytes code2_column;
        found2 = found2;
        marks = column_of bytes marks_column;
      }

  module _ (i : ℕ) (p : i < length rows) where
    inside : i < most_places
    inside = omega (arith, h.stored.few)

    marks_is : get_or (column_of bytes marks_column) i 0 ≡ marks_of (facts_at i).meets
    unfolding keys_of
    marks_is = column_at_lem bytes marks_column i inside ∙ (h.stored.row i p).marks

    code1_is : get_or (column_of bytes code1_column) i 0 ≡ (named_of (facts_at i).names).code
    unfolding keys_of
    code1_is = column_at_lem bytes code1_column i inside ∙ (h.stored.row i p).code1

    code2_is : get_or (column_of bytes code2_column) i 0 ≡ (named_of (drop 1 (facts_at i).names)).code
    unfolding keys_of
    code2_is = column_at_lem bytes code2_column i inside ∙ (h.stored.row i p).code2

  module _ (i : ℕ) (p : i < length rows) where
    -- the id of what a row names, where it names something
    named_id_lem : (n : Naming) (ms : List Naming) → eqb (code_of (manner_of n)) 0 ≡ false → named_id ls (named_of (n ∷ ms)) ≡ id_of (symbol_of n.key) ls
    unfolding named_id named_of
    named_id_lem n ms c = rw c

    found_one : (n : Naming) (ms : List Naming) → (facts_at i).names ≡ n ∷ ms → Listed (facts_at i).keys n
        → Finds rows n.key (get_or holders (at halves name1_column i) 0)
    unfolding keys_of
    found_one n ms e l =
        let q : at halves name1_column i ≡ id_of (symbol_of n.key) ls =
        (h.stored.row i p).name1 ∙ ap (λ ns. named_id ls (named_of ns)) e ∙ named_id_lem n ms l.coded in
        rw q (v.finds n.key l.bounded)

    found_two : (n m : Naming) (ms : List Naming) → (facts_at i).names ≡ n ∷ m ∷ ms → Listed (facts_at i).keys m
        → Finds rows m.key (get_or holders (at halves name2_column i) 0)
    unfolding keys_of
    found_two n m ms e l =
        let q : at halves name2_column i ≡ id_of (symbol_of m.key) ls =
        (h.stored.row i p).name2 ∙ ap (λ ns. named_id ls (named_of (drop 1 ns))) e ∙ named_id_lem m ms l.coded in
        rw q (v.finds m.key l.bounded)

    fit_first : (ns : List Naming) → NamesFit (facts_at i).keys ns → (n : Naming) (ms : List Naming) → ns ≡ n ∷ ms → Listed (facts_at i).keys n
    fit_first [] l n ms e = absurd (let z : ◌≡◌ {A = ℕ} 0 1 = cc in omega arith)
    fit_first (a ∷ []) l n ms e = let q : a ≡ n = cc in subst (Listed (facts_at i).keys) q l
    fit_first (a ∷ b ∷ []) l n ms e = let q : a ≡ n = cc in subst (Listed (facts_at i).keys) q l.0
    fit_first (a ∷ b ∷ c ∷ cs) l n ms e = absurd l

    fit_second : (ns : List Naming) → NamesFit (facts_at i).keys ns
        → (n m : Naming) (ms : List Naming) → ns ≡ n ∷ m ∷ ms → Listed (facts_at i).keys m
    fit_second [] l n m ms e = absurd (let z : ◌≡◌ {A = ℕ} 0 1 = cc in omega arith)
    fit_second (a ∷ []) l n m ms e = absurd (let z : ◌≡◌ {A = ℕ} 0 1 = cc in omega arith)
    fit_second (a ∷ b ∷ []) l n m ms e = let q : b ≡ m = cc in subst (Listed (facts_at i).keys) q l.1
    fit_second (a ∷ b ∷ c ∷ cs) l n m ms e = absurd l

    named : Names rows (get_or (column_of bytes code1_column) i 0) (get_or found1 i no_row)
        (get_or (column_of bytes code2_column) i 0) (get_or found2 i no_row) (facts_at i).names
    named =
        let f = (h.fits i p).names in
        rw (code1_is i p, code2_is i p, v.one i p, v.two i p)
        (names_are rows h.stored.few (facts_at i).keys _ _ (facts_at i).names f
        (λ n ms e. found_one n ms e (fit_first (facts_at i).names f n ms e))
        (λ n m ms e. found_two n m ms e (fit_second (facts_at i).names f n m ms e)))

    -- ---- reason 10

    first_id_lem : (k : Key) (ks : List Key) → (facts_at i).keys ≡ k ∷ ks → at halves key1_column i ≡ id_of (symbol_of k) ls
    unfolding keys_of slot_id slot_of
    first_id_lem k ks e = (h.stored.row i p).key1 ∙ rw e

    first_known : (k : Key) (ks : List Key) → (facts_at i).keys ≡ k ∷ ks → id_of (symbol_of k) ls < no_id
    unfolding keys_of slot_of
    first_known k ks e = rw e at ((h.stored.known i p).first (rw e))

    column_is : at bytes count_column i ≡ (countingOf (facts_at i).counts).column
    unfolding keys_of
    column_is = (h.stored.row i p).column

    number_is : at halves kept_number_column i ≡ min (countingOf (facts_at i).counts).number 65535
    unfolding keys_of
    number_is = (h.stored.row i p).number

    few_members : (g : Key) → tally rows g ≤ most_places
    unfolding tally
    few_members g = omega (arith, keep_length (λ o. belongs o g && sound rows o) rows, h.stored.few)

    -- a number that no tally reaches may be cut
    cut : (t m : ℕ) → t ≤ most_places → eqb t (min m 65535) ≡ eqb t m
    cut t m l =
        bool_cases (ltb m 65535) (λ q. let e : min m 65535 ≡ m = omega (arith, ltb-true m 65535 q) in rw e)
        (λ q. ne_eqb t (min m 65535) (λ z. omega (arith, ltb-false m 65535 q, z)) ∙ sym (ne_eqb t m (λ z. omega (arith, ltb-false m 65535 q, z))))

    count_is : (cs : List Count) (ks : List Key) → (facts_at i).counts ≡ cs → (facts_at i).keys ≡ ks → CountsFit cs ks
        → get_or counts i 0 ≡ first (map (count_cell rows) cs)
    unfolding count_finding count_cell countingOf
    count_is [] ks c k f = v.counted i p ∙ rw (column_is, c)
    count_is (d ∷ []) [] c k f = absurd f
    count_is (d ∷ []) (key ∷ ks) c k f =
        let g : d.group ≡ key = f.0 in
        let q : get_or tallies (at halves key1_column i) 0 ≡ tally rows d.group =
        ap (λ (x : ℕ). get_or tallies x 0) (first_id_lem key ks k)
        ∙ v.tally_at key (record { fits = f.2; numbered = first_known key ks k })
        ∙ ap (tally rows) (sym g) in
        v.counted i p
        ∙ rw (column_is, number_is, c, q, f.1, cut (tally rows d.group) d.number (few_members d.group))
        (last_one (eqb (tally rows d.group) d.number))
      where
        or_none : (a : ℕ) → or_else a 0 ≡ a
        or_none zero = refl
        or_none (suc a) = refl

        last_one : (b : Bool) → cond b 0 (reason_at 10 d.column) ≡ first (cond b 0 (reason_at 10 d.column) ∷ [])
        last_one b = sym (or_none (cond b 0 (reason_at 10 d.column)))
    count_is (d ∷ e ∷ cs) ks c k f = absurd f

    -- ---- layers

    says : Says (facts_at i) (keys_at rows i)
    says = fits_say (own (kept_entry rows i).reading) (facts_at i) (h.fits i p)

  abbrev layer : ℕ → ℕ
  layer i = rank_in (keys_at rows i)

  -- what a row names has a lower layer, or along the VALID chain the same
  module _ (i : ℕ) (p : i < length rows) (n : Naming) (m : Memᴰ n (facts_at i).names) (code found : ℕ) (r : Answers rows n code found) where
    lower : (manner_at code).chained ≡ false → (found ≡ no_row → ⊥) → layer found < layer i
    lower c some =
        let g = r.there some in
        names_lower (kept_entry rows i) (kept_entry rows found) (keys_at rows i) (keys_at rows found) (says i p) (says found g.0) n m g.1 (r.chained ∙ c)

    level : (manner_at code).chained ≡ true → (layer i ≡ 1) × ((found ≡ no_row → ⊥) → layer found ≡ 1)
    level c =
        let one : layer i ≡ 1 = ap rank ((says i p).chain n m (r.chained ∙ c)).1 ∙ parameters_rank in (
          one,
          λ some.
              let g = r.there some in
              chain_level (kept_entry rows i) (kept_entry rows found) (keys_at rows i) (keys_at rows found) (says i p) (says found g.0) n m g.1
              (r.chained ∙ c)
              ∙ one,
        )

    loud : layer i ≡ 0 → ⊥
    loud z = go n.chained refl
      where
        go : (b : Bool) → n.chained ≡ b → ⊥
        go true c = omega (arith, z, ap rank ((says i p).chain n m c).1 ∙ parameters_rank)
        go false c = omega (arith, z, (says i p).below n m c)

  module _ (i : ℕ) (p : i < length rows) where
    abbrev c1 : ℕ
    c1 = get_or (column_of bytes code1_column) i 0

    abbrev c2 : ℕ
    c2 = get_or (column_of bytes code2_column) i 0

    abbrev f1 : ℕ
    f1 = get_or found1 i no_row

    abbrev f2 : ℕ
    f2 = get_or found2 i no_row

    -- its first naming, and its second, are among what it names
    data InOne : Type 0 where
      nothing : c1 ≡ 0 → InOne
      named_by : (n : Naming) → Memᴰ n (facts_at i).names → Answers rows n c1 f1 → InOne

    data InTwo : Type 0 where
      nothing : c2 ≡ 0 → InTwo
      named_by : (n : Naming) → Memᴰ n (facts_at i).names → Answers rows n c2 f2 → InTwo

    in_one : InOne
    in_one = go (named i p).one refl
      where
        go : (x : Named rows c1 f1) → (named i p).one ≡ x → InOne
        go (absent e) q = nothing e
        go (present n e r) q = named_by n (rw ((named i p).are, q) (Memᴰ.head refl)) r

    in_two : InTwo
    in_two = go (named i p).two refl
      where
        last_mem : {c f : ℕ} (n : Naming) (x : Named rows c f) → Memᴰ n (names_in x ++ n ∷ [])
        last_mem n (absent e) = Memᴰ.head refl
        last_mem n (present m e r) = Memᴰ.tail (Memᴰ.head refl)

        go : (x : Named rows c2 f2) → (named i p).two ≡ x → InTwo
        go (absent e) q = nothing e
        go (present n e r) q = named_by n (rw ((named i p).are, q) (last_mem n (named i p).one)) r

    quiet : layer i ≡ 0 → (c1 ≡ 0) × (c2 ≡ 0)
    quiet z = (by_one in_one, by_two in_two)
      where
        by_one : InOne → c1 ≡ 0
        by_one (nothing e) = e
        by_one (named_by n m r) = absurd (loud i p n m _ _ r z)

        by_two : InTwo → c2 ≡ 0
        by_two (nothing e) = e
        by_two (named_by n m r) = absurd (loud i p n m _ _ r z)

    along : (manner_at c1).chained ≡ true → (layer i ≡ 1) × ((f1 ≡ no_row → ⊥) → layer f1 ≡ 1)
    along c = go in_one
      where
        go : InOne → (layer i ≡ 1) × ((f1 ≡ no_row → ⊥) → layer f1 ≡ 1)
        go (nothing e) = absurd (false≢true (sym (no_code c1 e) ∙ c))
        go (named_by n m r) = level i p n m _ _ r c

    below1 : (manner_at c1).chained ≡ false → (c1 ≡ 0 → ⊥) → (f1 ≡ no_row → ⊥) → layer f1 < layer i
    below1 c some there = go in_one
      where
        go : InOne → layer f1 < layer i
        go (nothing e) = absurd (some e)
        go (named_by n m r) = lower i p n m _ _ r c there

    below2 : (c2 ≡ 0 → ⊥) → (f2 ≡ no_row → ⊥) → layer f2 < layer i
    below2 some there = go in_two
      where
        go : InTwo → layer f2 < layer i
        go (nothing e) = absurd (some e)
        go (named_by n m r) = lower i p n m _ _ r (named i p).unchained there

  pub resolved : Resolved rows arrays layer
  unfolding arrays
  resolved =
      record {
        few = h.stored.few;
        twins = λ i j p q t. eqb-true _ _ (sym (h.tables.places i j p q) ∙ t);
        owns = own_kept rows words links count halves bytes h;
        sounds = v.sound_at;
        short = v.short;
        counted = λ i p formed. count_is i p (facts_at i).counts (facts_at i).keys refl refl (h.fits i p).counts;
        named = λ i p formed. named i p;
        marked = λ i p c. rw (marks_is i p) (marked (facts_at i).meets c);
        layers = record {
          most = λ i p. rank_most _;
          quiet = quiet;
          along = along;
          below1 = below1;
          below2 = below2;
        };
      }
