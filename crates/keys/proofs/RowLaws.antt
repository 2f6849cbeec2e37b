-- The facts of every row of bytes fit.
use mathlib.Core.Path.{refl, sym}
use mathlib.Core.Bool.{Bool, true, false, cond}
use mathlib.Core.List.{List, [], ◌∷◌}
use Prim.Native.Nat.{ℕ, ◌<◌}
use native.Mathlib.Omega.{arith}
use lib.Dec.{eqb}
use lib.ListN.{get_or}
use Rattle.laws.proofs.Cases.{false≢true}
use Rattle.lines.specs.Lines.{Line}
use Rattle.name_bytes.specs.Names.{name_of, curve_name_of}
use Rattle.schemas.specs.declared.Table.{Table}
use Rattle.schemas.specs.declared.Table.TheVariants.{Pid, Pic, Plf, Pcf, Caf, Cap, Txf, Txp, Ocf, Ocp, Mcf}
use Rattle.formed.specs.Formed.{formed}
use Rattle.rows.specs.Values.{optional_name, optional_curve}
use Rattle.decoding.specs.Records.{column, pid_row, pic_row, plf_row, pcf_row, caf_row, cap_row, txf_row, txp_row, ocf_row, ocp_row, mcf_row}
use Rattle.rows.specs.declared.records.PidRow.{PidRow}
use Rattle.rows.specs.declared.records.PcfRow.{PcfRow}
use Rattle.rows.specs.declared.letters.Valid.{Valid}
use Rattle.rows.specs.declared.letters.Valid.TheVariants.{Yes, No}
use Rattle.rows.specs.declared.letters.Category.{Category}
use Rattle.rows.specs.declared.letters.Category.TheVariants.{Numeric, Status, Text}
use Rattle.verdicts.specs.Key.{packet, parameter, limits, check}
use Rattle.verdicts.specs.Facts.{any_row, whole, numeric, itself, through, Facts, pid_keys, curtx_key, facts_of}
use Rattle.verdicts.specs.Facts.{pid_facts, pic_facts, plf_facts, pcf_facts, caf_facts, cap_facts, txf_facts, txp_facts, ocf_facts, ocp_facts, mcf_facts}
use Rattle.verdicts.specs.Entries.{reading_of, facts_in, fine, bad}
use Rattle.key_symbols.specs.Keyed.{name_symbol, curve_symbol, value_symbol, symbol_of}
use Rattle.keys.specs.Ranks.{ranks, rank}
use Rattle.manners.specs.Manners.{second_column, second_condition, manners, manner_at, weight, same_manner, code_from, code_of}
use Rattle.key_symbols.specs.Bounded.{NameBounded, CurveBounded, ValueBounded, Bounded}
use Rattle.key_symbols.proofs.NameLaws.{name_bounded, curve_bounded, value_bounded}
use Rattle.keys.proofs.BoundLaws.{column_bytes, natural_bounded}
use Rattle.keys.proofs.CaseLaws.{unchained}
use Rattle.keys.proofs.Fitting.{KeysFit, Listed, Fits, listed, both_given, second_given, under_c_lem}

pid_keys_lem : (v : Valid) (r : PidRow) → Bounded (packet r.ptype r.stype r.apid r.pi1 r.pi2) → KeysFit (pid_keys v r)
unfolding pid_keys Bounded symbol_of ranks rank
pid_keys_lem Yes r h = (h, tt, (λ e. omega arith), refl)
pid_keys_lem No r h = tt

-- the VALID chain goes from parameter to parameter
pcf_valid : (r : PcfRow) → NameBounded r.valid.name
    → Listed (parameter r.name ∷ []) (record { column = 8; key = parameter r.valid.name; kind = itself whole; chained = true })
unfolding Bounded symbol_of name_symbol manners manner_at weight same_manner code_from code_of
pcf_valid r h =
    record {
      bounded = h;
      coded = refl;
      decoded = refl;
      lower = record { down = λ e. absurd (false≢true (sym e)); along = λ _. (refl, refl) };
    }

pcf_curtx : (g : Category) (r : PcfRow) → CurveBounded r.curtx.name
    → Listed (parameter r.name ∷ []) (unchained 12 (curtx_key g r.curtx) (itself any_row))
unfolding Bounded symbol_of name_symbol curve_symbol value_symbol ranks rank manners manner_at weight same_manner code_from code_of
pcf_curtx Numeric r h = listed _ _ h (omega arith) refl refl refl
pcf_curtx Status r h = listed _ _ h (omega arith) refl refl refl
pcf_curtx Text r h = listed _ _ h (omega arith) refl refl refl

module _ (line : List ℕ) (h : (i : ℕ) → get_or line i 0 < 256) where
  name_at : (k : ℕ) → NameBounded (name_of (column line k))
  name_at k = name_bounded _ (column_bytes line h k)

  curve_at_lem : (k : ℕ) → CurveBounded (curve_name_of (column line k))
  curve_at_lem k = curve_bounded _ (column_bytes line h k)

  value_at : (k : ℕ) → ValueBounded (curve_name_of (column line k))
  value_at k = value_bounded _ (column_bytes line h k)

  facts_fit : (t : Table) → Fits (facts_of t line)
  unfolding facts_of pid_facts pic_facts plf_facts pcf_facts caf_facts cap_facts txf_facts txp_facts ocf_facts ocp_facts mcf_facts
      pid_row pic_row plf_row pcf_row caf_row cap_row txf_row txp_row ocf_row ocp_row mcf_row optional_name optional_curve
      Bounded symbol_of name_symbol curve_symbol value_symbol ranks rank manners manner_at weight same_manner code_from code_of
  facts_fit Pid = record { keys = pid_keys_lem (pid_row line).valid (pid_row line) (natural_bounded _, natural_bounded _); names = tt; counts = tt; groups = tt }
  facts_fit Pic = record { keys = natural_bounded _; names = tt; counts = tt; groups = tt }
  facts_fit Plf =
      record {
        keys = name_at 0;
        names = (listed _ _ (name_at 0) (omega arith) refl refl refl, listed _ _ tt (omega arith) refl refl refl, refl);
        counts = tt;
        groups = tt;
      }
  facts_fit Pcf =
      let r = pcf_row line in
      record {
        keys = name_at 0;
        names = both_given _ _ _ (pcf_valid r (name_at 7)) (pcf_curtx r.categ r (curve_at_lem 11)) refl r.valid.given r.curtx.given;
        counts = tt;
        groups = tt;
      }
  facts_fit Caf = record { keys = curve_at_lem 0; names = tt; counts = (refl, refl, curve_at_lem 0); groups = tt }
  facts_fit Cap = record { keys = value_at 0; names = listed _ _ (curve_at_lem 0) (omega arith) refl refl refl; counts = tt; groups = curve_at_lem 0 }
  facts_fit Txf = record { keys = curve_at_lem 0; names = tt; counts = (refl, refl, curve_at_lem 0); groups = tt }
  facts_fit Txp = record { keys = value_at 0; names = listed _ _ (curve_at_lem 0) (omega arith) refl refl refl; counts = tt; groups = curve_at_lem 0 }
  facts_fit Ocf =
      let n = (ocf_row line).name in
      record {
        keys = name_at 0;
        names =
            under_c_lem (limits n ∷ []) (unchained 1 (parameter n) (itself numeric)) (unchained 4 (parameter n) (through second_column second_condition))
            (listed _ _ (name_at 0) (omega arith) refl refl refl)
            (listed _ _ (name_at 0) (omega arith) refl refl refl)
            refl
            (ocf_row line).inter;
        counts = (refl, refl, name_at 0);
        groups = tt;
      }
  facts_fit Ocp =
      let r = ocp_row line in
      record {
        keys = name_at 0;
        names =
            second_given (check r.name r.pos ∷ [])
            (unchained 1 (limits r.name) (itself any_row)) (unchained 6 (parameter r.rlchk.name) (itself whole))
            (listed _ _ (name_at 0) (omega arith) refl refl refl)
            (listed _ _ (name_at 5) (omega arith) refl refl refl)
            refl
            r.rlchk.given;
        counts = tt;
        groups = name_at 0;
      }
  facts_fit Mcf = record { keys = curve_at_lem 0; names = tt; counts = tt; groups = tt }

-- well-formed or not
said_fits : (z : Bool) (f : Facts) (v : ℕ) → Fits f → Fits (facts_in (cond z (fine f) (bad v)))
said_fits true f v h = h
said_fits false f v h = record { keys = tt; names = tt; counts = tt; groups = tt }

pub row_fits : (t : Table) (line : Line) → ((i : ℕ) → get_or line.bytes i 0 < 256) → Fits (facts_in (reading_of t line))
unfolding reading_of
row_fits t line h = said_fits (eqb (formed t line) 0) (facts_of t line.bytes) (formed t line) (facts_fit line.bytes h t)
