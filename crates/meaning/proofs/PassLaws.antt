-- The passes one after the other, from arrays of zeros.
use mathlib.Core.Path.{◌≡◌, refl, ap, ◌∙◌}
use mathlib.Core.List.{List}
use Prim.Native.Nat.{ℕ, zero, suc, ◌≤◌, ◌<◌, min}
use native.Mathlib.Omega.{arith}
use lib.ListN.{length, get_or}
use Rattle.laws.specs.Lists.{or_else}
use Rattle.laws.specs.Prefix.{last_with, flag}
use Rattle.laws.proofs.Count.{count_within}
use Rattle.symbols.specs.declared.Symbol.{Symbol}
use Rattle.symbols.specs.Symbols.{no_id}
use Rattle.symbols.proofs.PlaceLaws.{id_below}
use Rattle.passes.specs.Marked.{has_id}
use Rattle.passes.specs.Counts.{Counted}
use Rattle.passes.specs.Holders.{Noted, Filled}
use Rattle.passes.specs.Sound.{sound_at}
use Rattle.passes.proofs.HolderLaws.{stored}
use Rattle.verdicts.specs.Key.{Key}
use Rattle.verdicts.specs.Entries.{Entry}
use Rattle.verdicts.specs.Verdicts.{sound, tally}
use Rattle.meaning.specs.Kept.{Coding, key_id, Known, kept_entry, Kept, holders_of, holder_of, ById}
use Rattle.meaning.specs.Judging.{Judged}
use Rattle.meaning.proofs.ShareLaws.{sound_law}
use Rattle.meaning.proofs.TallyLaws.{tally_law}
use Rattle.meaning.proofs.FindLaws.{finds_law}

-- an array of zeros with a place for each symbol and none for no_id
pub record Fresh (symbols : List Symbol) (xs : List ℕ) : Type 0 where
  pub wide : length symbols ≤ length xs
  pub narrow : length xs ≤ no_id
  pub clear : (id : ℕ) → get_or xs id 0 ≡ 0

module _ (symbols : List Symbol) (formed key1 key2 : List ℕ) (n : ℕ) (few : n ≤ 32767) where
  -- how many rows hold a key: first keys counted, then second keys
  pub holders_by : (xs ys zs : List ℕ) → Fresh symbols xs → Counted formed key1 xs ys n → Counted formed key2 ys zs n → ById symbols
      (holders_of formed key1 key2 n) zs
  unfolding holders_of
  holders_by xs ys zs z v w =
      record {
        wide = omega (arith, z.wide, v.size, w.size);
        narrow = omega (arith, z.narrow, v.size, w.size);
        at = λ id h.
            let a = v.at id (omega (arith, v.size, w.size)) in
            let b = w.at id (omega (arith, w.size)) in
            omega (arith, a, b, z.clear id, count_within (has_id formed key1 id) n, count_within (has_id formed key2 id) n);
      }

  -- the row that holds it: noted in the same order
  pub holder_by : (xs ys zs : List ℕ) → Fresh symbols xs → Noted formed key1 xs ys (min n 65535) → Noted formed key2 ys zs (min n 65535) → ById symbols
      (holder_of formed key1 key2 n) zs
  unfolding holder_of
  holder_by xs ys zs z v w =
      record {
        wide = omega (arith, z.wide, v.size, w.size);
        narrow = omega (arith, z.narrow, v.size, w.size);
        at = λ id h.
            let e : min n 65535 ≡ n = omega arith in
            w.at id (omega (arith, w.size))
            ∙ ap (or_else (last_with (has_id formed key2 id) (min n 65535)))
            (v.at id (omega (arith, v.size, w.size)) ∙ ap (or_else (last_with (has_id formed key1 id) (min n 65535))) (z.clear id) ∙ none
            (last_with (has_id formed key1 id) (min n 65535)))
            ∙ ap (λ (m : ℕ). or_else (last_with (has_id formed key2 id) m) (last_with (has_id formed key1 id) m)) e;
      }
    where
      none : (a : ℕ) → or_else a 0 ≡ a
      none zero = refl
      none (suc a) = refl

module _ (c : Coding) (symbols : List Symbol) (rows : List Entry) (formed key1 key2 group : List ℕ) (kept : Kept c symbols rows formed key1 key2 group)
    (few : length rows ≤ 32767) where
  abbrev n : ℕ
  n = length rows

  -- THE LAW OF THE PASSES: holders counted, sound rows marked, their groups counted, holders noted
  pub judged :
      (h₀ h₁ holders s₀ sounds t₀ tallies r₀ r₁ rows_of : List ℕ)
      → Fresh symbols h₀ → Counted formed key1 h₀ h₁ n → Counted formed key2 h₁ holders n
      → n ≤ length s₀ → Filled (sound_at formed key1 key2 holders) s₀ sounds n
      → Fresh symbols t₀ → Counted sounds group t₀ tallies n
      → Fresh symbols r₀ → Noted formed key1 r₀ r₁ (min n 65535) → Noted formed key2 r₁ rows_of (min n 65535)
      → Judged c symbols rows sounds tallies rows_of
  judged h₀ h₁ holders s₀ sounds t₀ tallies r₀ r₁ rows_of hz ha hb room f tz t rz ra rb =
      record {
        sound_at = sounds_at;
        tally_at = tally_at_lem;
        finds = finds_law c symbols rows formed key1 key2 group kept rows_of
            (holder_by symbols formed key1 key2 n few r₀ r₁ rows_of rz ra rb);
      }
    where
      sounds_at : (i : ℕ) → i < n → get_or sounds i 0 ≡ flag (sound rows (kept_entry rows i))
      sounds_at i p =
          stored (sound_at formed key1 key2 holders) s₀ sounds n f i p (omega arith)
          ∙ sound_law c symbols rows formed key1 key2 group kept holders (holders_by symbols formed key1 key2 n few h₀ h₁ holders hz ha hb) i p

      tally_at_lem : (g : Key) → Known c symbols g → get_or tallies (key_id c symbols g) 0 ≡ tally rows g
      tally_at_lem g h =
          let b = id_below (c.symbol_of g) symbols h.numbered in
          let e = t.at (key_id c symbols g) (omega (arith, tz.wide)) in
          omega (
            arith,
            e,
            tz.clear (key_id c symbols g),
            count_within (has_id sounds group
                (key_id c symbols g)) n,
            tally_law c symbols rows formed key1 key2 group kept g h sounds sounds_at,
          )
