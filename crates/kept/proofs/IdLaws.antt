-- Keys that become symbols one after the other, and what the symbols keep.
use mathlib.Core.Path.{◌≡◌, refl, ap, sym, ◌∙◌}
use mathlib.Core.Bool.{Bool, true, false, not, cond, ◌&&◌}
use mathlib.Core.List.{List}
use Prim.Native.Nat.{ℕ, ◌+◌, ◌≤◌, ◌<◌}
use Rattle.std.specs.Prelude.{Option, is_some}
use native.Mathlib.Omega.{arith}
use lib.Dec.{eqb, ltb}
use lib.ListN.{length}
use borrow.Author.Tests.{ltb-true, ltb-false, eq-eqb, ne_eqb}
use Rattle.laws.proofs.Cases.{bool_cases, false≢true, and_left, and_right}
use Rattle.symbols.specs.declared.Symbol.{Symbol}
use Rattle.symbols.specs.declared.Interned.{Interned}
use Rattle.symbols.specs.Symbols.{id_of, no_id}
use Rattle.symbols.specs.Arrays.{symbols, has_space, most_symbols}
use Rattle.symbols.specs.Searches.{Table}
use Rattle.symbols.specs.Interning.{Interns}
use Rattle.symbols.proofs.SameLaws.{same_is}
use Rattle.symbols.proofs.PlaceLaws.{id_is, id_symbol, id_stays, grown_old}
use Rattle.symbols.proofs.AnswerLaws.{room_sized, words_size, links_size}
use Rattle.symbols.proofs.FindLaws.{symbols_length}
use Rattle.symbols.proofs.InternLaws.{Grows, interns, id_now, extends, count_most, is_symbol}
use Rattle.row_keys.specs.declared.records.Named.{Named}
use Rattle.row_keys.specs.declared.records.RowKeys.{RowKeys}
use Rattle.manners.specs.Manners.{bit}
use Rattle.row_keys.specs.Parts.{key_in, is_named}
use Rattle.kept.specs.declared.interning.FirstIds.{FirstIds}
use Rattle.kept.specs.Stored.{slot_id, named_id}
use Rattle.kept.specs.Ids.{Spacious, KeepsIds, Fits, Grown, Entered, names_symbol, besides, first_wanted, wanted, FirstEntered, RowEntered}

-- ---- one key

-- a key that is a symbol makes none new
old_count : {words links words₁ links₁ : List ℕ} {n : ℕ} {k : Symbol} {r : Interned} → Grows words links n k words₁ links₁ r
    → id_of k (symbols words n) < no_id → r.count ≤ n
old_count {words} {links} {words₁} {links₁} {n} {k} {r} w h =
    let e : length (symbols words₁ r.count) ≡ length (symbols words n) =
    ap length (w.list ∙ grown_old (has_space words links n) k (symbols words n) (id_symbol k (symbols words n) h)) in
    omega (arith, symbols_length words₁ r.count, symbols_length words n)

module _ (words links : List ℕ) (n : ℕ) (t : Table words links n) (given : Bool) (k : Symbol) where
  pub entered_none : given ≡ false → Entered words links words links n given k (record { id = 65535; count = n })
  entered_none e =
      record {
        id = rw e;
        known = λ q. absurd (false≢true (sym e ∙ q));
        grown = record { keeps = record { same = λ l h. refl }; table = t; few = omega arith; words = refl; links = refl };
        old = λ h. omega arith;
      }

  -- where there is a place for it or it is a symbol, it has an id
  some_known : Spacious words links → Fits (symbols words n) n k → {words₁ links₁ : List ℕ} {r : Interned} → Grows words links n k words₁ links₁ r
      → id_of k (symbols words₁ r.count) < no_id
  some_known s f {words₁} {links₁} {r} w =
      bool_cases (ltb n most_symbols)
      (λ q. let h = ltb-true n most_symbols q in
      let p = is_symbol w (room_sized words links most_symbols n (omega arith) s.words s.links h) in
      omega (arith, id_is k (symbols words₁ r.count) p, symbols_length words₁ r.count, count_most w))
      (λ q. let h = f (ltb-false n most_symbols q) in
      omega (arith, id_stays (extends w) k h))

  pub entered_some : given ≡ true → Spacious words links → Fits (symbols words n) n k → {words₁ links₁ : List ℕ} {r : Interned}
      → Interns words links words₁ links₁ n k r → Entered words links words₁ links₁ n given k r
  entered_some e s f {words₁} {links₁} {r} i =
      let w = interns words links n t k i in
      record {
        id = rw e (id_now w);
        known = λ q. some_known s f w;
        grown = record {
          keeps = record { same = λ l h. id_stays (extends w) l h };
          table = w.table;
          few = rw e (count_most w);
          words = ap length i.words ∙ words_size words links n k;
          links = ap length i.links ∙ links_size words links n k;
        };
        old = λ h. old_count w h;
      }

-- ---- symbols that have grown

-- what has an id keeps one
pub known_on : {ls ms : List Symbol} → KeepsIds ls ms → (k : Symbol) → id_of k ls < no_id → id_of k ms < no_id
known_on w k h = omega (arith, w.same k h)

pub keeps_on : {ls ms ns : List Symbol} → KeepsIds ls ms → KeepsIds ms ns → KeepsIds ls ns
keeps_on p q = record { same = λ k h. q.same k (known_on p k h) ∙ p.same k h }

pub grown_on : {words₀ links₀ words₁ links₁ words₂ links₂ : List ℕ} {n m count more less : ℕ} → Grown words₀ links₀ n words₁ links₁ m more
    → Grown words₁ links₁ m words₂ links₂ count less
    → Grown words₀ links₀ n words₂ links₂ count (more + less)
grown_on v w =
    record {
      keeps = keeps_on v.keeps w.keeps;
      table = w.table;
      few = omega (arith, v.few, w.few);
      words = w.words ∙ v.words;
      links = w.links ∙ v.links;
    }

pub grown_most : {words₀ links₀ words₁ links₁ : List ℕ} {n m more : ℕ} (most : ℕ) → Grown words₀ links₀ n words₁ links₁ m more → more ≤ most
    → Grown words₀ links₀ n words₁ links₁ m most
grown_most most w h = record { keeps = w.keeps; table = w.table; few = omega (arith, w.few); words = w.words; links = w.links }

pub spacious_on : {words₀ links₀ words₁ links₁ : List ℕ} {n m more : ℕ} → Spacious words₀ links₀ → Grown words₀ links₀ n words₁ links₁ m more
    → Spacious words₁ links₁
spacious_on s w = record { words = omega (arith, s.words, w.words); links = omega (arith, s.links, w.links) }

choice : (b : Bool) (x y : ℕ) → cond b y x ≡ cond (not b) x y
choice true x y = refl
choice false x y = refl

-- ids that are kept stay right
module _ {ls ms : List Symbol} (w : KeepsIds ls ms) where
  given_on : (given : Bool) (k : Symbol) → (given ≡ true → id_of k ls < no_id) → cond given (id_of k ms) no_id ≡ cond given (id_of k ls) no_id
  given_on true k h = w.same k (h refl)
  given_on false k h = refl

  pub slot_on : (s : Option Symbol) → (is_some s ≡ true → id_of (key_in s) ls < no_id) → slot_id ms s ≡ slot_id ls s
  unfolding slot_id
  slot_on s h = given_on (is_some s) (key_in s) h

  pub named_on : (n : Named) → (is_named n ≡ true → id_of n.key ls < no_id) → named_id ms n ≡ named_id ls n
  unfolding named_id
  named_on n h =
      choice (eqb n.code 0) (id_of n.key ms) no_id ∙ given_on (is_named n) n.key h ∙ sym (choice (eqb n.code 0) (id_of n.key ls) no_id)

-- ---- a row's keys

-- the id of a key that may be given, and of one that may be named
slot_is : (ls : List Symbol) (s : Option Symbol) → cond (is_some s) (id_of (key_in s) ls) no_id ≡ slot_id ls s
unfolding slot_id
slot_is ls s = refl

named_is : (ls : List Symbol) (n : Named) → cond (is_named n) (id_of n.key ls) no_id ≡ named_id ls n
unfolding named_id
named_is ls n = sym (choice (eqb n.code 0) (id_of n.key ls) no_id)

named_test : (n : Named) → (n.code ≡ 0 → ⊥) → is_named n ≡ true
named_test n h = ap not (ne_eqb n.code 0 h)

pub named_code : (n : Named) → is_named n ≡ true → n.code ≡ 0 → ⊥
named_code n e z = false≢true (sym (ap not (eq-eqb n.code 0 z)) ∙ e)

-- there is a place for a key that is counted among those asked for
pub fits_given : (ls : List Symbol) (n : ℕ) (given : Bool) (k : Symbol) → n + bit given ≤ most_symbols → given ≡ true → Fits ls n k
fits_given ls n true k h e m = absurd (omega arith)
fits_given ls n false k h e m = absurd (false≢true e)

-- a key that is named already has an id
module _ (ls : List Symbol) (one : Named) (known : is_named one ≡ true → id_of one.key ls < no_id) (given : Bool) (k : Symbol) where
  named_known : names_symbol one k ≡ true → id_of k ls < no_id
  named_known e = rw (same_is k one.key (and_right (is_named one) _ e)) (known (and_left (is_named one) _ e))

  pub fits_besides : (n : ℕ) → n + besides one given k ≤ most_symbols → given ≡ true → Fits ls n k
  fits_besides n h e m = go (names_symbol one k) refl h
    where
      go : (b : Bool) → names_symbol one k ≡ b → n + bit (given && not b) ≤ most_symbols → id_of k ls < no_id
      go true q l = named_known q
      go false q l = absurd (let z : n + 1 ≤ most_symbols = rw e at l in omega arith)

  pub few_besides : (n count : ℕ) → count ≤ n + bit given → (id_of k ls < no_id → count ≤ n) → count ≤ n + besides one given k
  few_besides n count f o = go (names_symbol one k) refl given f
    where
      go : (b : Bool) → names_symbol one k ≡ b → (g : Bool) → count ≤ n + bit g → count ≤ n + bit (g && not b)
      go true q g l = omega (arith, o (named_known q))
      go false q true l = l
      go false q false l = l

module _ (w₀ l₀ w₁ l₁ w₂ l₂ w₃ l₃ : List ℕ) (n : ℕ) (r : RowKeys) (p q o : Interned)
    (x : Entered w₀ l₀ w₁ l₁ n (is_some r.first) (key_in r.first) p) (y : Entered w₁ l₁ w₂ l₂ p.count (is_some r.second) (key_in r.second) q)
    (z : Entered w₂ l₂ w₃ l₃ q.count (is_named r.one) r.one.key o) where
  -- the keys that a row holds and its first naming, one after the other
  pub first_entered : FirstEntered w₀ l₀ w₃ l₃ n r (record { key1 = p.id; key2 = q.id; name1 = o.id; count = o.count })
  unfolding first_wanted
  first_entered =
      let s = keeps_on y.grown.keeps z.grown.keeps in
      let t = z.grown.keeps in
      record {
        key1 = x.id ∙ slot_is _ r.first ∙ sym (slot_on s r.first x.known);
        key2 = y.id ∙ slot_is _ r.second ∙ sym (slot_on t r.second y.known);
        name1 = z.id ∙ named_is _ r.one;
        first = λ g. known_on s (key_in r.first) (x.known g);
        second = λ g. known_on t (key_in r.second) (y.known g);
        one = z.known;
        grown = grown_on (grown_on x.grown y.grown) z.grown;
      }

-- there is a place for each
module _ (n : ℕ) (r : RowKeys) (h : n + first_wanted r ≤ most_symbols) where
  pub fits_first : (ls : List Symbol) → is_some r.first ≡ true → Fits ls n (key_in r.first)
  unfolding first_wanted
  fits_first ls = fits_given ls n (is_some r.first) (key_in r.first) (omega arith)

  pub fits_second : {w₀ l₀ w₁ l₁ : List ℕ} {p : Interned} → Entered w₀ l₀ w₁ l₁ n (is_some r.first) (key_in r.first) p
      → is_some r.second ≡ true → Fits (symbols w₁ p.count) p.count (key_in r.second)
  unfolding first_wanted
  fits_second {p = p} x = fits_given _ p.count (is_some r.second) (key_in r.second) (omega (arith, x.grown.few))

  pub fits_one : {w₀ l₀ w₁ l₁ w₂ l₂ : List ℕ} {p q : Interned} → Entered w₀ l₀ w₁ l₁ n (is_some r.first) (key_in r.first) p
      → Entered w₁ l₁ w₂ l₂ p.count (is_some r.second) (key_in r.second) q → is_named r.one ≡ true → Fits (symbols w₂ q.count) q.count r.one.key
  unfolding first_wanted
  fits_one {q = q} x y = fits_given _ q.count (is_named r.one) r.one.key (omega (arith, x.grown.few, y.grown.few))

-- a key that its first naming names makes no new symbol
pub grown_besides : {w₀ l₀ w₁ l₁ : List ℕ} {n : ℕ} {given : Bool} {k : Symbol} {p : Interned} (one : Named)
    → (is_named one ≡ true → id_of one.key (symbols w₀ n) < no_id)
    → Entered w₀ l₀ w₁ l₁ n given k p → Grown w₀ l₀ n w₁ l₁ p.count (besides one given k)
grown_besides {w₀} {l₀} {w₁} {l₁} {n} {given} {k} {p} one h x =
    record {
      keeps = x.grown.keeps;
      table = x.grown.table;
      few = few_besides (symbols w₀ n) one h given k n p.count x.grown.few x.old;
      words = x.grown.words;
      links = x.grown.links;
    }

module _ (w₀ l₀ w₁ l₁ w₂ l₂ w₃ l₃ : List ℕ) (n : ℕ) (r : RowKeys) (ids : FirstIds) (p q : Interned) (f : FirstEntered w₀ l₀ w₁ l₁ n r ids)
    (x : Entered w₁ l₁ w₂ l₂ ids.count (is_named r.two) r.two.key p) (y : Entered w₂ l₂ w₃ l₃ p.count (is_some r.group) (key_in r.group) q) where
  -- all of a row's keys
  pub row-entered :
      RowEntered w₀ l₀ w₃ l₃ n r (record { key1 = ids.key1; key2 = ids.key2; name1 = ids.name1; name2 = p.id; group = q.id; count = q.count })
  unfolding wanted
  row-entered =
      let s = keeps_on x.grown.keeps y.grown.keeps in
      let t = y.grown.keeps in
      record {
        key1 = f.key1 ∙ sym (slot_on s r.first f.first);
        key2 = f.key2 ∙ sym (slot_on s r.second f.second);
        name1 = f.name1 ∙ sym (named_on s r.one f.one);
        name2 = x.id ∙ named_is _ r.two ∙ sym (named_on t r.two x.known);
        group = y.id ∙ slot_is _ r.group;
        known = record {
          first = λ g. known_on s (key_in r.first) (f.first g);
          second = λ g. known_on s (key_in r.second) (f.second g);
          one = λ g. known_on s r.one.key (f.one (named_test r.one g));
          two = λ g. known_on t r.two.key (x.known (named_test r.two g));
          group = y.known;
        };
        grown = grown_on (grown_on f.grown (grown_besides r.one f.one x))
            (grown_besides r.one (λ g. known_on x.grown.keeps r.one.key (f.one g)) y);
      }

module _ {w₀ l₀ w₁ l₁ : List ℕ} {n : ℕ} {r : RowKeys} {ids : FirstIds} (h : n + wanted r ≤ most_symbols) (f : FirstEntered w₀ l₀ w₁ l₁ n r ids) where
  pub fits_two : is_named r.two ≡ true → Fits (symbols w₁ ids.count) ids.count r.two.key
  unfolding wanted
  fits_two = fits_besides (symbols w₁ ids.count) r.one f.one (is_named r.two) r.two.key ids.count (omega (arith, f.grown.few))

  pub fits_group : {w₂ l₂ : List ℕ} {p : Interned} → Entered w₁ l₁ w₂ l₂ ids.count (is_named r.two) r.two.key p
      → is_some r.group ≡ true → Fits (symbols w₂ p.count) p.count (key_in r.group)
  unfolding wanted
  fits_group {w₂} {l₂} {p} x =
      let g = grown_besides r.one f.one x in
      fits_besides (symbols w₂ p.count) r.one (λ e. known_on x.grown.keeps r.one.key (f.one e)) (is_some r.group) (key_in r.group) p.count
      (omega (arith, f.grown.few, g.few))

-- the first keys ask for no more than all
pub first_few : (n : ℕ) (r : RowKeys) → n + wanted r ≤ most_symbols → n + first_wanted r ≤ most_symbols
unfolding wanted
first_few n r h = omega arith
