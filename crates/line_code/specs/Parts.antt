-- Hash, tree, code and records of one table, as the fragment broadcast (crate line_fragments) sees them: each is the definition that a call's
-- contract cites.
use Rattle.std.specs.Prelude.{ℕ, suc, ◌+◌, ◌-◌, ◌*◌, ◌/◌, ◌≤◌, ◌≡◌, Bool, true, leb, eqb, length, take}
use mathlib.Core.List.{List, [], Memᴰ}
use Rattle.std.proofs.Math.Option.{Option, none, some}
use Rattle.octets.specs.Bytes.{pick, part, same}
use Rattle.octets.specs.Sets.{set_of}
use Rattle.table.specs.Table.{k_of, s_max}
use Rattle.table.specs.declared.Table.{Table}
use Rattle.sha256.specs.Sha256.{sha256}
use Rattle.tree.specs.Tree.{root_of, path_of, flat}
use Rattle.tree.specs.Check.{path_correct}
use Rattle.tree.specs.Strings.{check_strings, tree_strings}
use Rattle.code_encode.specs.Message.{fragment_for}
use Rattle.code_through.specs.Through.{marks}
use Rattle.deliver.specs.Delivered.{read_from, result_of}
use Rattle.record.specs.Form.{Read, Form, Fault, parse, record_of}
use Rattle.line.specs.Bytes.{bytes}
use Rattle.line_fragments.specs.Code.{Code}
use Rattle.line_fragments.specs.Step.{Record, send, echo, vote, Line}

-- a set of boards as its bits: board i is bit i - 1
unfoldable pub bits_of : ℕ → (ℕ → Bool) → ℕ
bits_of n U = set_of (λ i. U (suc i)) 0 n

-- the strings hashed in the encoding of a message, if there is one
unfoldable pub encoding_strings : Table → Option (List ℕ) → List (List ℕ)
encoding_strings b none = []
encoding_strings b (some m) = tree_strings b.n (fragment_for b m)

-- the strings hashed in "fresh encodings": those of the message read from the k lowest, whether its root is then the one voted for or not
unfoldable pub fresh_strings : Table → ℕ → (ℕ → List ℕ) → List (List ℕ)
fresh_strings b set fragment = encoding_strings b (read_from b (take (k_of b) (marks 1 b.n set)) fragment)

-- a message of at most L bytes
pub record Sendable (b : Table) (m : List ℕ) : Type 0 where
  pub fits : length m ≤ b.longest
  pub bytes : bytes m ≡ true

abbrev pub code_of : Table → Code
code_of b = record {
  Msg = List ℕ;
  Frag = List ℕ;
  Root = List ℕ;
  Path = List ℕ;
  Str = List ℕ;
  hash = sha256;
  Fits = Sendable b;
  piece = λ m i. fragment_for b m (i - 1);
  root = λ m. root_of b.n (fragment_for b m);
  path = λ m i. flat (path_of b.n (fragment_for b m) (i - 1));
  coded = λ m y. Memᴰ y (tree_strings b.n (fragment_for b m));
  Proper = λ f. bytes f ≡ true;
  check = λ r i f π. path_correct b.n i r π f;
  checked = λ r i f π y. Memᴰ y (check_strings b.n i π f);
  result = λ v U F. result_of b v (bits_of b.n U) F;
  fresh = λ v U F y. Memᴰ y (fresh_strings b (bits_of b.n U) F);
}

-- ---- records

abbrev pub FragmentRecord : Type 0
FragmentRecord = Record (List ℕ) (List ℕ) (List ℕ)

-- a record by its kind (1, 2 or 3), root, path and fragment
unfoldable pub of_kind : ℕ → List ℕ → List ℕ → List ℕ → Option FragmentRecord
of_kind k r π f = pick (eqb k 1) (some (send r π f)) (pick (eqb k 2) (some (echo r π f)) (some (vote r)))

-- what the bytes of a record say
unfoldable pub record_read : List ℕ → Read → Option FragmentRecord
record_read s (Fault why at) = none
record_read s (Form k p f) = of_kind k (part 3 32 s) (part 37 (32 * p) s) (part (39 + 32 * p) f s)

unfoldable pub read_record : List ℕ → Option FragmentRecord
read_record s = pick (bytes s) (record_read s (parse s)) none

-- the bytes of a record
unfoldable pub write_record : FragmentRecord → List ℕ
write_record (send r π f) = record_of 1 r (length π / 32) π f
write_record (echo r π f) = record_of 2 r (length π / 32) π f
write_record (vote r) = record_of 3 r 0 [] []

abbrev pub line_of : (b : Table) → Line b.n b.t (code_of b)
line_of b = record {
  S = b.sender;
  Bytes = List ℕ;
  read = read_record;
  write = write_record;
  short = λ f. leb (length f) (s_max b);
  same = same;
}
