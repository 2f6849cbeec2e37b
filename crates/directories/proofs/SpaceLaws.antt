-- One table read into its part of the space.
use Rattle.std.proofs.Common.{◌≡◌, ℕ, ◌+◌, ◌-◌, ◌*◌, ◌<◌, ◌≤◌, true, false, ltb, List, length, get_or, set, sym, refl, ap, ◌∙◌, subst, arith, get_or-drop, get_or-take, ltb-false, ltb-true, lt-ltb, le-leb}
use Rattle.std.specs.declared.io.ErrorKind.{ErrorKind}
use borrow.Rule.Slice.PartMut.{mid_of, put_mid, mid_len, put_same, take_put, drop_put}
use Rattle.laws.proofs.Cases.{bool_cases, and_both, false≢true}
use Rattle.verdicts.specs.Entries.{table_count}
use Rattle.tables.specs.Parts.{part_size}
use Rattle.std.specs.Prelude.{Some, None, Ok, Err}
use Rattle.files.specs.Reads.{Got, Within, ReadInto}
use Rattle.directories.specs.Space.{end_of, has_part, TableInto, TableLoaded, SamePart}

within_part : (got : Got) (before after : List ℕ) (n : ℕ) → length after ≤ n → ReadInto got before after → Within got n
within_part (Ok (Some k)) before after n h r = omega arith
within_part (Ok None) before after n h r = tt
within_part (Err e) before after n h r = tt

as_it_was : (got : Got) (before after : List ℕ) → ReadInto got before after → got ≡ Ok None → after ≡ before
as_it_was (Ok (Some k)) before after r e = cc
as_it_was (Ok None) before after r e = r
as_it_was (Err k) before after r e = cc

-- where there is no room nothing is read
pub into_none : (t : ℕ) (space : List ℕ) → TableInto t (Ok None) space space
into_none t space = record { within = tt; room = λ _. refl; missing = λ _. refl; front = refl; rest = refl }

module _ (t : ℕ) (got : Got) (space part : List ℕ) (below : t < table_count) (fits : t * part_size + part_size ≤ length space) where
  has_room : has_part space t ≡ true
  unfolding has_part
  has_room = and_both (lt-ltb t table_count below) (le-leb (t * part_size + part_size) (length space) fits)

  pub into_part : ReadInto got (mid_of (t * part_size) (t * part_size + part_size - t * part_size) space) part
      → length part ≡ length (mid_of (t * part_size) (t * part_size + part_size - t * part_size) space)
      → TableInto t got space (put_mid (t * part_size) (t * part_size + part_size - t * part_size) space part)
  into_part r e =
      let a = t * part_size in
      let size : length part ≡ t * part_size + part_size - t * part_size = e ∙ mid_len a (a + part_size) space fits in
      record {
        within = within_part got (mid_of a (a + part_size - a) space) part part_size (omega arith) r;
        room = λ no. absurd (false≢true (sym no ∙ has_room));
        missing =
            λ m. ap (λ (l : List ℕ). put_mid (t * part_size) (t * part_size + part_size - t * part_size) space l)
            (as_it_was got (mid_of a (a + part_size - a) space) part r m)
            ∙ put_same a (a + part_size - a) space;
        front = take_put a (a + part_size - a) space part (omega arith);
        rest = drop_put a (a + part_size) space part (omega arith) fits size;
      }

-- the parts of other tables are as they were
module _ (t : ℕ) {got : Got} {before after : List ℕ} (into : TableInto t got before after) (u : ℕ) where
  ahead : u < t → SamePart before after u
  ahead h k l =
      let i = u * part_size + k in
      let below : u * part_size + k < t * part_size = omega arith in
      sym (get_or-take (t * part_size) after i 0 below) ∙ ap (λ (s : List ℕ). get_or s (u * part_size + k) 0) into.front ∙ get_or-take
      (t * part_size) before i 0 below

  behind : t < u → SamePart before after u
  behind h k l =
      let e = t * part_size + part_size in
      let j = u * part_size + k - (t * part_size + part_size) in
      let is : u * part_size + k ≡ t * part_size + part_size + (u * part_size + k - (t * part_size + part_size)) = omega arith in
      ap (λ (i : ℕ). get_or after i 0) is ∙ sym (get_or-drop e after j 0)
      ∙ ap (λ (s : List ℕ). get_or s (u * part_size + k - (t * part_size + part_size)) 0) into.rest
      ∙ get_or-drop e before j 0 ∙ ap (λ (i : ℕ). get_or before i 0) (sym is)

  pub beside : (u ≡ t → ⊥) → SamePart before after u
  beside d =
      bool_cases (ltb u t) (λ q. ahead (ltb-true u t q))
      (λ q. bool_cases (ltb t u) (λ p. behind (ltb-true t u p)) (λ p. absurd (d (omega (arith, ltb-false u t q, ltb-false t u p)))))

-- what a table's reading leaves in the ends, by the answer
module _ (t : ℕ) {got : Got} {before after : List ℕ} (into : TableInto t got before after) (ends : List ℕ) where
  pub loaded_bytes : {count e : ℕ} {ends' : List ℕ} → got ≡ Ok (Some count) → e ≡ end_of t count → ends' ≡ set ends t e
      → TableLoaded t true before after ends ends'
  loaded_bytes {count} is v s =
      record { answer = Ok (Some count); into = subst (λ (g : Got). TableInto t g before after) is into; kept = s ∙ ap (set ends t) v; told = refl }

  pub loaded_missing : got ≡ Ok None → TableLoaded t true before after ends ends
  loaded_missing is = record { answer = Ok None; into = subst (λ (g : Got). TableInto t g before after) is into; kept = refl; told = refl }

  pub loaded_failed : {error : ErrorKind} → got ≡ Err error → TableLoaded t false before after ends ends
  loaded_failed {error} is =
      record { answer = Err error; into = subst (λ (g : Got). TableInto t g before after) is into; kept = refl; told = refl }
