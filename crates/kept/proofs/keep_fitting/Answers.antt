-- By the lengths of the arrays; once they are long enough, the links are cleared and the rows kept.
use mathlib.Core.Path.{refl}
use native.Mathlib.Omega.{arith}
use Rattle.kept.specs.FirstPass.{arrays}
use Rattle.kept.specs.Keeping.{Keeps}
use Rattle.kept.proofs.SituationLaws.{ready_cleared}
use Rattle.kept.proofs.KeepingLaws.{sizes_taken, short_words, short_links, short_halves, short_bytes, all_long, keeps_rows}
use Rattle.kept.proofs.keep_fitting.Goals as goal

pub returns-then-words-lt-WORDS : goal.returns-then-words-lt-WORDS
unfolding Keeps
returns-then-words-lt-WORDS c = (
  c.requires,
  short_words
      (arrays c.args.words.now c.args.links.now 0 c.args.halves.now c.args.bytes.now) c.if-words-lt-WORDS.true,
  refl,
)

pub returns-then-links-lt-LINKS : goal.returns-then-links-lt-LINKS
unfolding Keeps
returns-then-links-lt-LINKS c = (
  c.requires,
  short_links
      (arrays c.args.words.now c.args.links.now 0 c.args.halves.now c.args.bytes.now) c.if-words-lt-WORDS.false c.if-links-lt-LINKS.true,
  refl,
)

pub returns-then-halves-lt-HALVES : goal.returns-then-halves-lt-HALVES
unfolding Keeps
returns-then-halves-lt-HALVES c = (
  c.requires,
  short_halves
      (arrays c.args.words.now c.args.links.now 0 c.args.halves.now c.args.bytes.now) c.if-words-lt-WORDS.false c.if-links-lt-LINKS.false c.if-halves-lt-HALVES.true,
  refl,
)

pub returns-then-bytes-lt-BYTES : goal.returns-then-bytes-lt-BYTES
unfolding Keeps
returns-then-bytes-lt-BYTES c = (
  c.requires,
  short_bytes
      (arrays c.args.words.now c.args.links.now 0 c.args.halves.now c.args.bytes.now) c.if-words-lt-WORDS.false c.if-links-lt-LINKS.false
      c.if-halves-lt-HALVES.false c.if-bytes-lt-BYTES.true,
  refl,
)

pub keep_tables-kept-requires : goal.keep_tables-kept-requires
keep_tables-kept-requires c = record {
  tables_value = sizes_taken _ c.requires;
  ready = ready_cleared c.args.words.now c.args.links.now _ c.args.halves.now c.args.bytes.now
      c.clear_halves.ensures
      (omega (arith, c.if-words-lt-WORDS.false))
      (omega (arith, c.if-links-lt-LINKS.false))
      (omega (arith, c.if-halves-lt-HALVES.false))
      (omega (arith, c.if-bytes-lt-BYTES.false));
}

pub returns : goal.returns
unfolding Keeps
returns c = keeps_rows _ c.args.words.now c.args.links.now c.args.halves.now c.args.bytes.now _ _ _ _ _ _ _ c.requires
    (all_long (arrays c.args.words.now c.args.links.now 0 c.args.halves.now c.args.bytes.now)
    c.if-words-lt-WORDS.false c.if-links-lt-LINKS.false c.if-halves-lt-HALVES.false c.if-bytes-lt-BYTES.false)
    c.clear_halves.ensures c.keep_tables-kept.ensures.rows_value c.keep_tables-kept.ensures.stored c.keep_tables-kept.ensures.situations c.keep_tables-kept.ensures.same_sizes c.keep_tables-kept.ensures.hold_bytes
