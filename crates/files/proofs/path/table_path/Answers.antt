-- Four texts one after the other. With a directory's name of 4,096 bytes they have at most 4,109.
use Prim.Native.Nat.{ℕ, ◌≤◌, ◌<◌}
use mathlib.Core.Path.{◌≡◌, refl, ◌∙◌, ap}
use mathlib.Core.List.{List, [], ◌++◌, append_assoc}
use native.Mathlib.Omega.{arith}
use lib.ListN.{length, length-take}
use Rattle.io.specs.Counts.{IsPrefixLen}
use borrow.Author.Tests.{le-leb, lt-leb}
use Rattle.laws.specs.Text.{ascii}
use Rattle.lines.specs.Columns.{part_of}
use Rattle.table_names.specs.Headings.{table_name}
use Rattle.files.specs.Paths.{path_of, file_of, letters, put_first}
use Rattle.files.proofs.PathLaws.{put_next, put_length}
use Rattle.files.proofs.path.table_path.Goals as goal

none : (directory : List ℕ) (t : ℕ) → 4096 < length directory → [] ≡ path_of directory t
unfolding path_of
none directory t h = rw (lt-leb _ _ h)

whole : (directory name : List ℕ) (t : ℕ) → length directory ≤ 4096 → name ≡ letters (table_name t)
    → ((directory ++ ascii "/") ++ name) ++ ascii ".dat" ≡ path_of directory t
unfolding path_of file_of
whole directory name t h e = rw (le-leb _ _ h) (rw e (simp append_assoc))

short : (part l : List ℕ) (e : ℕ) → part ≡ part_of l 0 e → 8 ≡ length l → length part ≤ 8
short part l e is eight = rw is (simp length-take (omega arith))

counts : (n : ℕ) (l : List ℕ) → n ≤ length l → IsPrefixLen n l
counts n l h = (h, simp length-take (omega arith))

pub returns-then-directory-gt-LONGEST_DIRECTORY : goal.returns-then-directory-gt-LONGEST_DIRECTORY
returns-then-directory-gt-LONGEST_DIRECTORY c =
    let e : [] ≡ path_of c.args.directory.now c.args.table.0 = none c.args.directory.now c.args.table.0 (omega arith) in
    record {
      prefix_len = counts 0 c.args.path.now (omega arith);
      value = ap (λ (l : List ℕ). length l) e;
      path_after = ap (λ (l : List ℕ). put_first l c.args.path.now) e;
    }

pub append-after_name-requires : goal.append-after_name-requires
append-after_name-requires c =
    let short-name : length c.part.result.now ≤ 8 = short _ c.table_name-name.result.bytes c.table_name-name.result.len c.part.ensures (omega arith) in
    omega (arith, short-name)

pub append-requires : goal.append-requires
append-requires c =
    let short-name : length c.part.result.now ≤ 8 = short _ c.table_name-name.result.bytes c.table_name-name.result.len c.part.ensures (omega arith) in
    omega (arith, short-name)

pub returns : goal.returns
returns c =
    let short-name : length c.part.result.now ≤ 8 = short _ c.table_name-name.result.bytes c.table_name-name.result.len c.part.ensures (omega arith) in
    let l = put_length c.args.path.now [] c.args.directory.now refl c.append-after_directory.ensures.value in
    let m = put_length c.args.path.now c.args.directory.now (ascii "/") l c.append-after_slash.ensures.value in
    let n = put_length c.args.path.now (c.args.directory.now ++ ascii "/") c.part.result.now m c.append-after_name.ensures.value in
    let o = put_length c.args.path.now (c.args.directory.now ++ ascii "/" ++ c.part.result.now) (ascii ".dat") n c.append.ensures.value in
    let q = put_next c.args.path.now (c.args.directory.now ++ ascii "/") c.part.result.now _ _ (put_next c.args.path.now c.args.directory.now (ascii "/") _ _ (put_next c.args.path.now [] c.args.directory.now _ _ refl refl c.append-after_directory.ensures.path_after) l c.append-after_slash.ensures.path_after) m c.append-after_name.ensures.path_after in
    let r = put_next c.args.path.now (c.args.directory.now ++ ascii "/" ++ c.part.result.now) (ascii ".dat") _ _ q n c.append.ensures.path_after in
    let w = whole c.args.directory.now c.part.result.now c.args.table.0 (omega arith) (cc) in
    let h : c.append.result ≤ length c.append.new.path = omega (arith, short-name) in
    record {
      prefix_len = counts _ _ h;
      value = o ∙ ap (λ (k : List ℕ). length k) w;
      path_after = r ∙ ap (λ (k : List ℕ). put_first k c.args.path.now) w;
    }
