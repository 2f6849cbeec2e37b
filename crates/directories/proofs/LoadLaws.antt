-- The tables loaded one after the other.
use Rattle.std.proofs.Common.{◌≡◌, ℕ, zero, suc, ◌+◌, ◌-◌, ◌*◌, ◌<◌, ◌≤◌, Bool, true, false, ◌&&◌, ltb, leb, ◌⊎◌, List, [], ◌∷◌, ◌++◌, length, get_or, take, drop, set, replicate, sym, refl, ap, ◌∙◌, subst, ap₂, inl, inr, append_assoc, append-nil, arith, length-append, lt-ltb, le-leb, leb-true}
use lib.ListN.{get_or-eq_default}
use lib.Seq.{set_at}
use Rattle.laws.proofs.Cases.{cond_cases}
use Rattle.verdicts.specs.Entries.{table_count}
use Rattle.tables.specs.Parts.{part_size, table_in}
use Rattle.std.specs.Prelude.{Some, None, Ok, Err}
use Rattle.directories.specs.declared.Loaded.{Loaded}
use Rattle.files.specs.Reads.{Got, Within}
use Rattle.directories.specs.Space.{end_of, EndsInParts, has_part, TableLoaded, end_by, ends_after, is_read}
use Rattle.directories.specs.Space.{ends_by, all_read, loaded_by, answer_for, SamePart, LoadedInto}
use Rattle.directories.proofs.SpaceLaws.{beside}

-- One answer more

-- the answers of all tables so far, and of the one that follows
snoc_answer : (P : Got → Type 0) (gots : List Got) (g : Got) (u : ℕ) → (u ≡ length gots → P g) → ((u ≡ length gots → ⊥) → P (answer_for gots u))
    → P (answer_for (gots ++ g ∷ []) u)
snoc_answer P [] g zero f n = f refl
snoc_answer P [] g (suc u) f n = n (λ e. omega arith)
snoc_answer P (a ∷ gots) g zero f n = n (λ e. omega arith)
snoc_answer P (a ∷ gots) g (suc u) f n = snoc_answer P gots g u (λ e. f (ap suc e)) (λ d. n (λ e. d (omega arith)))

and_true : (b : Bool) → b ≡ (b && true)
and_true true = refl
and_true false = refl

all_snoc : (gots : List Got) (g : Got) → (all_read gots && is_read g) ≡ all_read (gots ++ g ∷ [])
unfolding all_read
all_snoc [] g = and_true (is_read g)
all_snoc (a ∷ gots) g = go (is_read a) (all_snoc gots g)
  where
    go : (b : Bool) → (all_read gots && is_read g) ≡ all_read (gots ++ g ∷ []) → ((b && all_read gots) && is_read g) ≡ (b && all_read (gots ++ g ∷ []))
    go true e = e
    go false e = refl

ends_snoc : (s t : ℕ) (gots : List Got) (g : Got) → s + length gots ≡ t → ends_by s (gots ++ g ∷ []) ≡ ends_by s gots ++ end_by t g ∷ []
unfolding ends_by
ends_snoc s t [] g e = let q : s ≡ t = omega arith in ap (λ (k : ℕ). end_by k g ∷ []) q
ends_snoc s t (a ∷ gots) g e = ap (λ (l : List ℕ). end_by s a ∷ l) (ends_snoc (suc s) t gots g (omega arith))

ends_length : (s : ℕ) (gots : List Got) → length (ends_by s gots) ≡ length gots
unfolding ends_by
ends_length s [] = refl
ends_length s (g ∷ gots) = ap suc (ends_length (suc s) gots)

-- the ends of the tables so far stand before zeros
module _ (t : ℕ) (gots : List Got) (count : length gots ≡ t) (below : t < table_count) (ends : List ℕ)
    (sofar : ends ≡ ends_by 0 gots ++ replicate (table_count - t) 0) where
  one_left : ends ≡ ends_by 0 gots ++ 0 ∷ replicate (table_count - (t + 1)) 0
  one_left =
      let m : table_count - t ≡ suc (table_count - (t + 1)) = omega arith in
      sofar ∙ ap (λ (k : ℕ). ends_by 0 gots ++ replicate k 0) m

  joined : (g : Got) → ends_by 0 gots ++ end_by t g ∷ replicate (table_count - (t + 1)) 0 ≡ ends_by 0 (gots ++ g ∷ []) ++ replicate (table_count - (t + 1)) 0
  joined g =
      sym
      (ap (λ (l : List ℕ). l ++ replicate (table_count - (t + 1)) 0) (ends_snoc 0 t gots g (omega arith))
      ∙ append_assoc (ends_by 0 gots) (end_by t g ∷ []) (replicate (table_count - (t + 1)) 0))

  ends_next : (g : Got) → ends_after t g ends ≡ ends_by 0 (gots ++ g ∷ []) ++ replicate (table_count - (t + 1)) 0
  ends_next (Ok (Some n)) =
      let l : length (ends_by 0 gots) ≡ t = ends_length 0 gots ∙ count in
      ap (λ (s : List ℕ). set s t (end_of t n)) one_left
      ∙ set_at (ends_by 0 gots) 0 (replicate (table_count - (t + 1)) 0) (end_of t n) t l ∙ joined (Ok (Some n))
  ends_next (Ok None) = one_left ∙ joined (Ok None)
  ends_next (Err e) = one_left ∙ joined (Err e)

-- The turns of the loop

-- t tables were loaded, by t answers
pub record LoadedSo (t : ℕ) (ends : List ℕ) (whole : Bool) (before after : List ℕ) : Type 0 where
  pub answers : List Got
  pub count : length answers ≡ t
  pub sofar : ends ≡ ends_by 0 answers ++ replicate (table_count - t) 0
  pub all : whole ≡ all_read answers
  pub within : (u : ℕ) → Within (answer_for answers u) part_size
  pub room : (u : ℕ) → has_part before u ≡ false → answer_for answers u ≡ Ok None
  pub untouched : (u : ℕ) → answer_for answers u ≡ Ok None → SamePart before after u

pub so_none : (space : List ℕ) → LoadedSo 0 (replicate table_count 0) true space space
unfolding ends_by all_read
so_none space =
    record { answers = []; count = refl; sofar = refl; all = refl; within = λ u. tt; room = λ u no. refl; untouched = λ u m k h. refl }

same_room : (t : ℕ) (a b : List ℕ) → length a ≡ length b → has_part a t ≡ has_part b t
unfolding has_part
same_room t a b e = ap (λ (n : ℕ). ltb t table_count && leb (t * part_size + part_size) n) e

module _ {t : ℕ} {ends : List ℕ} {whole : Bool} {before mid : List ℕ} (so : LoadedSo t ends whole before mid) (below : t < table_count) where
  pub so_more : {after ends' : List ℕ} {read whole' : Bool} → length mid ≡ length before → TableLoaded t read mid after ends ends'
      → whole' ≡ (whole && read) → LoadedSo (t + 1) ends' whole' before after
  so_more {after} size l w =
      let gots = so.answers in
      let g = l.answer in
      record {
        answers = so.answers ++ l.answer ∷ [];
        count = simp length-append (omega (arith, so.count));
        sofar = l.kept ∙ ends_next t gots so.count below ends so.sofar g;
        all = w ∙ ap₂ (λ (a b : Bool). a && b) so.all l.told ∙ all_snoc gots g;
        within = λ u. snoc_answer (λ x. Within x part_size) gots g u (λ _. l.into.within) (λ _. so.within u);
        room =
            λ u no. snoc_answer (λ x. x ≡ Ok None) gots g u
            (λ e. l.into.room (same_room t mid before size ∙ ap (has_part before) (sym (e ∙ so.count)) ∙ no)) (λ _. so.room u no);
        untouched =
            λ u. snoc_answer (λ x. x ≡ Ok None → SamePart before after u) gots g u
            (λ e m k h. ap (λ (s : List ℕ). get_or s (u * part_size + k) 0) (l.into.missing m) ∙ so.untouched u (past u e) k h)
            (λ d m k h. beside t l.into u (λ e. d (e ∙ sym so.count)) k h ∙ so.untouched u m k h);
      }
    where
      past : (u : ℕ) → u ≡ length so.answers → answer_for so.answers u ≡ Ok None
      past u e = get_or-eq_default so.answers (Ok None) {n = u} (omega arith)

same_loaded : {a b : List ℕ} {x y : Bool} → a ≡ b → x ≡ y → ◌≡◌ {A = Loaded} (record { ends = a; whole = x }) (record { ends = b; whole = y })
same_loaded p q = rw (p, q)

pub so_all : {t : ℕ} {ends : List ℕ} {whole : Bool} {before after : List ℕ} → LoadedSo t ends whole before after → t ≡ table_count
    → LoadedInto (record { ends = ends; whole = whole }) before after
unfolding loaded_by
so_all so e =
    record {
      answers = so.answers;
      count = so.count ∙ e;
      answered =
          same_loaded (so.sofar ∙ ap (λ (k : ℕ). ends_by 0 so.answers ++ replicate (table_count - k) 0) e ∙ append-nil (ends_by 0 so.answers)) so.all;
      within = so.within;
      room = so.room;
      untouched = so.untouched;
    }

-- What follows of tables that were loaded

-- an end in the part of table t
abbrev In : ℕ → ℕ → Type 0
In t e = (e ≡ 0) ⊎ ((t * part_size ≤ e) × (e ≤ t * part_size + part_size))

end_in : (t count : ℕ) → In t (end_of t count)
unfolding end_of
end_in t count =
    cond_cases (In t) (ltb t table_count)
    (λ _. cond_cases (In t) (leb count part_size) (λ h. let few = leb-true count part_size h in inr (omega arith, omega arith)) (λ _. inl refl))
    (λ _. inl refl)

by_in : (t : ℕ) (g : Got) → In t (end_by t g)
by_in t (Ok (Some n)) = end_in t n
by_in t (Ok None) = inl refl
by_in t (Err e) = inl refl

end_there : (t count : ℕ) → t < table_count → count ≤ part_size → end_of t count ≡ t * part_size + count
unfolding end_of
end_there t count h k = rw (lt-ltb t table_count h, le-leb count part_size k)

ends_at : (s u t : ℕ) (gots : List Got) → s + u ≡ t → get_or (ends_by s gots) u 0 ≡ end_by t (answer_for gots u)
unfolding ends_by
ends_at s u t [] e = refl
ends_at s zero t (g ∷ gots) e = let q : s ≡ t = omega arith in ap (λ (k : ℕ). end_by k g) q
ends_at s (suc u) t (g ∷ gots) e = ends_at (suc s) u t gots (omega arith)

module _ {loaded : Loaded} {before after : List ℕ} (l : LoadedInto loaded before after) where
  end_is : (t : ℕ) → get_or loaded.ends t 0 ≡ end_by t (answer_for l.answers t)
  unfolding loaded_by
  end_is t = ap (λ (x : Loaded). get_or x.ends t 0) l.answered ∙ ends_at 0 t t l.answers (omega arith)

  -- each table ends in its own part
  pub apart : EndsInParts loaded.ends
  apart = record { own = λ t. subst (In t) (sym (end_is t)) (by_in t (answer_for l.answers t)) }

  -- a table is the bytes that were read, at the start of its part
  pub table_is : (t count : ℕ) → t < table_count → answer_for l.answers t ≡ Ok (Some count) → table_in after loaded.ends t ≡ take count
      (drop (t * part_size) after)
  unfolding table_in
  table_is t count h is =
      let few : count ≤ part_size = subst (λ (g : Got). Within g part_size) is (l.within t) in
      let e : get_or loaded.ends t 0 ≡ t * part_size + count = end_is t ∙ ap (end_by t) is ∙ end_there t count h few in
      let n : t * part_size + count - t * part_size ≡ count = omega arith in
      ap (λ (k : ℕ). take (k - t * part_size) (drop (t * part_size) after)) e ∙ ap (λ (k : ℕ). take k (drop (t * part_size) after)) n
