-- Refusals 27, 28 and 29 of an extraction mean exactly what 01 says, of the field that its good rows give.
use mathlib.Core.Path.{◌≡◌, refl, sym, ap, ◌∙◌}
use mathlib.Core.Logic.{◌↔◌}
use mathlib.Core.Bool.{false}
use mathlib.Core.List.{List, [], ◌∷◌}
use Prim.Native.Nat.{ℕ}
use native.Mathlib.Omega.{arith}
use lib.Dec.{eqb}
use Rattle.laws.specs.Lists.{any}
use Rattle.laws.proofs.Cases.{false≢true}
use Rattle.name_bytes.specs.Names.{name_of}
use Rattle.tables.specs.Sizes.{fit, sizes_of}
use Rattle.outcomes.specs.Outcome.{Outcome, answer, refused, and_then}
use Rattle.outcomes.specs.Values.{Value}
use Rattle.database.specs.Rows.{Rows}
use Rattle.database.specs.GoodRows.{of_tables}
use Rattle.headers.specs.Header.{head_of}
use Rattle.identification.specs.Identification.{Identity, identify_headed, identify_by}
use Rattle.raw_values.specs.RawValues.{raw_of}
use Rattle.parameters.specs.Located.{Located, by_lines, located}
use Rattle.readings.specs.Readings.{Reading, with_validity, reading_with, validity, reading}
use Rattle.calls.specs.Tables.{after_sizes, asking}
use Rattle.extraction.specs.Extraction.{extract_by}
use Rattle.calls.specs.Calls.{extract_of}
use Rattle.at_verdicts.specs.Placed.{Placed, plf_of, pcf_of, NoOccurrence, Leaves, OffByte}
use Rattle.at_verdicts.proofs.NumberLaws.{never_one, then_is, then_refused, later, first_only, earlier}
use Rattle.at_verdicts.proofs.PacketNumbers.{identifying, identify_numbers}
use Rattle.at_verdicts.proofs.ParameterRows.{parameter_width}
use Rattle.at_verdicts.proofs.Extraction26.{located_is}
use Rattle.at_verdicts.proofs.StepRows.{located_found, located_numbers}
use Rattle.at_verdicts.proofs.FieldCases.{headed_short}
use Rattle.at_verdicts.proofs.StringCases.{Case, over, out, off_a_byte, read, raw_case}

-- The raw value

-- a refusal that is none of 20 to 25 and 26 is one of the raw value
module _ (rows : Rows) (p name : List ℕ) (k number place : ℕ) where
  abbrev ask : Identity → Outcome Reading
  ask id = reading rows p id.spid (name_of name) k

  abbrev made : Identity → Located → Value → Outcome Reading
  made id at v = with_validity (validity rows p id.spid at.pcf) v

  abbrev read_at : Identity → Located → Outcome Reading
  read_at id at = and_then (raw_of p at.plf at.pcf k) (made id at)

  abbrev Refused : Type 0
  Refused = (at : Placed rows p name) × (raw_of p (plf_of at) (pcf_of at) k ≡ refused number place)

  to_raw : any (eqb number) (0 ∷ identifying) ≡ false → any (eqb number) (0 ∷ 26 ∷ []) ≡ false → extract_by rows p name k ≡ refused number place → Refused
  unfolding extract_by reading reading_with with_validity by_lines
  to_raw x y e =
      let a = later number place (identify_by rows p) ask (never_one number identifying (identify_by rows p) x (identify_numbers rows p)) e in
      let id : Identity = a.0 in
      let b = later number place (located rows id.spid (name_of name)) (read_at id)
      (never_one number (26 ∷ []) (located rows id.spid (name_of name)) y (located_numbers rows (name_of name) id.spid)) a.2 in
      let f = located_found rows (name_of name) id.spid b.0 b.1 in
      let r = first_only number place (raw_of p b.0.plf b.0.pcf k) (made id b.0)
      (λ v. (record { value = v; valid = validity rows p id.spid b.0.pcf }, refl)) b.2 in (
        record { identity = id; identified = a.1; plf = f.plf; has_place = f.has_place; pcf = f.pcf; described = f.described },
        ap (λ (at : Located). raw_of p at.plf at.pcf k) f.are ∙ r,
      )

  from_raw : Refused → extract_by rows p name k ≡ refused number place
  unfolding extract_by reading reading_with by_lines
  from_raw r =
      let at : Placed rows p name = r.0 in
      let id : Identity = at.identity in
      let l : Located = by_lines at.plf.bytes at.pcf.bytes in
      then_is (identify_by rows p) ask id at.identified
      ∙ then_is (located rows id.spid (name_of name)) (read_at id) l
      (located_is rows id.spid (name_of name) at.plf at.pcf at.has_place at.described)
      ∙ then_refused (raw_of p (plf_of at) (pcf_of at) k) (made id l) number place r.1

-- Its cases

module _ (texts : List (List ℕ)) (p name : List ℕ) (k : ℕ) where
  case : (at : Placed (of_tables texts) p name) → Case p (plf_of at) (pcf_of at) k
  unfolding identify_by
  case at =
      let w = parameter_width texts (name_of name) at.pcf at.described in
      let h = earlier (head_of p) (λ head. identify_headed (of_tables texts) head p) at.identity at.identified in
      raw_case p (plf_of at) (pcf_of at) w.0 w.1 (headed_short p h.0 h.1) k

  -- two answers of one occurrence
  apart : {o : Outcome Value} {m n q place : ℕ} → o ≡ refused m q → o ≡ refused n place → m ≡ n
  apart e f = cc

  one_place : {o : Outcome Value} {m n q place : ℕ} → o ≡ refused m q → o ≡ refused n place → q ≡ place
  one_place e f = cc

  read_not : {o : Outcome Value} {v : Value} {n place : ℕ} → o ≡ answer v → o ≡ refused n place → ⊥
  read_not e f = let z : ◌≡◌ {A = ℕ} 0 1 = cc in omega arith

  no_occurrence : (at : Placed (of_tables texts) p name) → raw_of p (plf_of at) (pcf_of at) k ≡ refused 27 0 → NoOccurrence (of_tables texts) p name k
  no_occurrence at e = go (case at)
    where
      go : Case p (plf_of at) (pcf_of at) k → NoOccurrence (of_tables texts) p name k
      go (over h r) = record { at = at; over = h }
      go (out b f r) = absurd (let z : ◌≡◌ {A = ℕ} 28 27 = apart r e in omega arith)
      go (off_a_byte b t s o r) = absurd (let z : ◌≡◌ {A = ℕ} 29 27 = apart r e in omega arith)
      go (read b t o v r) = absurd (read_not r e)

  raw_27 : (u : NoOccurrence (of_tables texts) p name k) → raw_of p (plf_of u.at) (pcf_of u.at) k ≡ refused 27 0
  raw_27 u = go (case u.at)
    where
      go : Case p (plf_of u.at) (pcf_of u.at) k → raw_of p (plf_of u.at) (pcf_of u.at) k ≡ refused 27 0
      go (over h r) = r
      go (out b f r) = absurd (omega (arith, u.over))
      go (off_a_byte b t s o r) = absurd (omega (arith, u.over))
      go (read b t o v r) = absurd (omega (arith, u.over))

  leaving : (byte : ℕ) (at : Placed (of_tables texts) p name) → raw_of p (plf_of at) (pcf_of at) k ≡ refused 28 byte → Leaves (of_tables texts) p name k byte
  leaving byte at e = go (case at)
    where
      go : Case p (plf_of at) (pcf_of at) k → Leaves (of_tables texts) p name k byte
      go (over h r) = absurd (let z : ◌≡◌ {A = ℕ} 27 28 = apart r e in omega arith)
      go (out b f r) = record { at = at; below = b; outside = f; start = one_place r e }
      go (off_a_byte b t s o r) = absurd (let z : ◌≡◌ {A = ℕ} 29 28 = apart r e in omega arith)
      go (read b t o v r) = absurd (read_not r e)

  raw_28 : (byte : ℕ) (u : Leaves (of_tables texts) p name k byte) → raw_of p (plf_of u.at) (pcf_of u.at) k ≡ refused 28 byte
  raw_28 byte u = go (case u.at)
    where
      go : Case p (plf_of u.at) (pcf_of u.at) k → raw_of p (plf_of u.at) (pcf_of u.at) k ≡ refused 28 byte
      go (over h r) = absurd (omega (arith, u.below))
      go (out b f r) = r ∙ ap (λ (q : ℕ). refused 28 q) u.start
      go (off_a_byte b t s o r) = absurd (false≢true (sym u.outside ∙ t))
      go (read b t o v r) = absurd (false≢true (sym u.outside ∙ t))

  off_byte : (byte : ℕ) (at : Placed (of_tables texts) p name) → raw_of p (plf_of at) (pcf_of at) k ≡ refused 29 byte → OffByte (of_tables texts) p name k byte
  off_byte byte at e = go (case at)
    where
      go : Case p (plf_of at) (pcf_of at) k → OffByte (of_tables texts) p name k byte
      go (over h r) = absurd (let z : ◌≡◌ {A = ℕ} 27 29 = apart r e in omega arith)
      go (out b f r) = absurd (let z : ◌≡◌ {A = ℕ} 28 29 = apart r e in omega arith)
      go (off_a_byte b t s o r) = record { at = at; below = b; there = t; string = s; off_a_byte = o; start = one_place r e }
      go (read b t o v r) = absurd (read_not r e)

  raw_29 : (byte : ℕ) (u : OffByte (of_tables texts) p name k byte) → raw_of p (plf_of u.at) (pcf_of u.at) k ≡ refused 29 byte
  raw_29 byte u = go (case u.at)
    where
      go : Case p (plf_of u.at) (pcf_of u.at) k → raw_of p (plf_of u.at) (pcf_of u.at) k ≡ refused 29 byte
      go (over h r) = absurd (omega (arith, u.below))
      go (out b f r) = absurd (false≢true (sym f ∙ u.there))
      go (off_a_byte b t s o r) = r ∙ ap (λ (q : ℕ). refused 29 q) u.start
      go (read b t o v r) = absurd (u.off_a_byte (o u.string))

  -- Of the call, with tables that fit

  pub extract_27 : sizes_of texts ≡ fit → (extract_of texts p name k ≡ refused 27 0) ↔ NoOccurrence (of_tables texts) p name k
  unfolding extract_of asking after_sizes
  extract_27 f =
      rw f (
        λ e. let r = to_raw (of_tables texts) p name k 27 0 refl refl e in no_occurrence r.0 r.1,
        λ u. from_raw (of_tables texts) p name k 27 0 (u.at, raw_27 u),
      )

  pub extract_28 : sizes_of texts ≡ fit → (byte : ℕ) → (extract_of texts p name k ≡ refused 28 byte) ↔ Leaves (of_tables texts) p name k byte
  unfolding extract_of asking after_sizes
  extract_28 f byte =
      rw f (
        λ e. let r = to_raw (of_tables texts) p name k 28 byte refl refl e in leaving byte r.0 r.1,
        λ u. from_raw (of_tables texts) p name k 28 byte (u.at, raw_28 byte u),
      )

  pub extract_29 : sizes_of texts ≡ fit → (byte : ℕ) → (extract_of texts p name k ≡ refused 29 byte) ↔ OffByte (of_tables texts) p name k byte
  unfolding extract_of asking after_sizes
  extract_29 f byte =
      rw f (
        λ e. let r = to_raw (of_tables texts) p name k 29 byte refl refl e in off_byte byte r.0 r.1,
        λ u. from_raw (of_tables texts) p name k 29 byte (u.at, raw_29 byte u),
      )
