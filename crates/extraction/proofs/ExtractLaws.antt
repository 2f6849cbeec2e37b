-- A reading once the packet is identified.
use mathlib.Core.Path.{◌≡◌, ap, ◌∙◌}
use mathlib.Core.List.{List}
use Prim.Native.Nat.{ℕ}
use Rattle.std.specs.Prelude.{Result, Ok, Err}
use Rattle.name_bytes.specs.Names.{name_of}
use Rattle.name_bytes.specs.declared.Name.{Name}
use Rattle.outcomes.specs.Outcome.{Outcome}
use Rattle.outcomes.specs.declared.Refusal.{Refusal}
use Rattle.database.specs.Rows.{Rows}
use Rattle.identification.specs.Identification.{identify_by, said_identified}
use Rattle.outcomes.proofs.OutcomeLaws.{told, then_answer, then_refused}
use Rattle.identification.specs.declared.Identity as code
use Rattle.readings.specs.declared.Reading as told_as
use Rattle.readings.specs.Readings.{Reading, reading, said_reading}
use Rattle.extraction.specs.Extraction.{extract_by}

module _ (rows : Rows) (p name : List ℕ) (k : ℕ) {i : Result code.Identity Refusal} (e : said_identified i ≡ identify_by rows p) where
  pub extract_read : (id : code.Identity) → i ≡ Ok id → {m : Name} → m ≡ name_of name
      → {o : Outcome Reading} → o ≡ reading rows p id.spid.0 m k → o ≡ extract_by rows p name k
  unfolding extract_by said_identified
  extract_read id s q h = then_answer (λ id. reading rows p id.spid (name_of name) k) (told said_identified e s) (rw q at h)

  pub extract_refused : (refusal : Refusal) → i ≡ Err refusal → {r : Result told_as.Reading Refusal} → r ≡ Err refusal → said_reading r ≡ extract_by rows p name k
  unfolding extract_by said_identified said_reading
  extract_refused refusal s t =
      ap said_reading t ∙ then_refused (λ id. reading rows p id.spid (name_of name) k) refusal (told said_identified e s)
