-- The sender's records: what is written for a board is the record that the sender's call promises, and is read as it was written.
-- Assumes nothing.
use Prim.Native.Nat.{ℕ, ◌-◌, ◌*◌, ◌/◌}
use mathlib.Core.Path.{◌≡◌, ap}
use mathlib.Core.Bool.{true}
use mathlib.Core.List.{List}
use native.Mathlib.Omega.{arith}
use lib.Dec.{T, leb, le→leb}
use lib.ListN.{length}
use Rattle.table.specs.Table.{limits, k_of, s_max}
use Rattle.table.specs.declared.Table.{Table}
use Rattle.table.proofs.Within.{within, k_pos}
use Rattle.code.specs.Block.{rows}
use Rattle.code_encode.specs.Message.{fragment_for}
use Rattle.code_encode.proofs.Sizes.{rows_most, fragment_length}
use Rattle.tree.specs.Tree.{tree_of, depth, root_of, path_of, flat}
use Rattle.tree.proofs.Checks.{path_length}
use Rattle.record.specs.Form.{record_of}
use Rattle.record.proofs.PartLaws.{Fits, parts_pass}
use Rattle.record.proofs.PartLaws as P
use Rattle.board_send.specs.Sent.{send_record}
use Rattle.board_send.proofs.Sends.{send_form}
use Rattle.line.specs.Boards.{Board}
use Rattle.line_fragments.specs.Step.{mail}
use Rattle.line_fragments.specs.Laws.{MailLaws}
use Rattle.line_code.specs.Parts.{Sendable, write_record, line_of}
use Rattle.line_code.proofs.ByteLaws.{all_bytes, bytes_all}
use Rattle.line_code.proofs.Encodings.{root_bytes, path_bytes, fragment_bytes}
use Rattle.line_code.proofs.Records.{Good, echo_good}
use Rattle.line_code.proofs.Lines.{read_send}

-- as many nodes as the path has
nodes : (p d : ℕ) → p ≡ 32 * d → p / 32 ≡ d
nodes p d e = omega arith

pub mail_sent : (b : Table) → limits b ≡ true → (m : List ℕ) (j : ℕ) → Sendable b m → Board b.n j → mail (line_of b) m j ≡ send_record b m j
unfolding write_record send_record
mail_sent b limited m j fits board =
    let fs = fragment_for b m in
    let π = flat (path_of b.n fs (j - 1)) in
    ap (λ (p : ℕ). record_of 1 (root_of b.n fs) p π (fs (j - 1))) (nodes (length π) (depth (tree_of b.n) (j - 1)) (path_length b.n fs (j - 1)))

module _ (b : Table) (limited : limits b ≡ true) (m : List ℕ) (j : ℕ) (fits : Sendable b m) (board : Board b.n j) where
  -- root, path and fragment of a message are a send's
  sent_fits : Fits 1 (length (root_of b.n (fragment_for b m))) (length (flat (path_of b.n (fragment_for b m) (j - 1))))
      (length (fragment_for b m (j - 1)))
  sent_fits =
      let f = send_form b m j limited board.low board.high fits.fits in
      P.fits 1 _ _ _ 1 _ _ (rw (f.root, f.path, f.fragment) at (parts_pass (send_record b m j) 1 (depth (tree_of b.n) (j - 1)) (rows (k_of b) (length m)) f.reads))

  sent_good : Good 1 (root_of b.n (fragment_for b m)) (flat (path_of b.n (fragment_for b m) (j - 1))) (fragment_for b m (j - 1))
  sent_good = record {
    fits = sent_fits;
    root_bytes = root_bytes b.n (fragment_for b m);
    path_bytes = path_bytes b.n (fragment_for b m) (j - 1);
    fragment_bytes = fragment_bytes b m (j - 1) (bytes_all m fits.bytes);
  }

  short : T (leb (length (fragment_for b m (j - 1))) (s_max b))
  short =
      let pos = k_pos b (within b limited) in
      le→leb (length (fragment_for b m (j - 1))) (s_max b) (omega (arith, fragment_length b m (j - 1) pos, rows_most b (length m) pos fits.fits))

pub mail_laws : (b : Table) → limits b ≡ true → MailLaws (line_of b)
mail_laws b limited = record {
  read_proper = λ s r π f e. all_bytes f (echo_good s r π f e).fragment_bytes;
  send_back = λ m j fits board.
      read_send (root_of b.n (fragment_for b m)) (flat (path_of b.n (fragment_for b m) (j - 1))) (fragment_for b m (j - 1)) (sent_good b limited m j fits board);
  piece_short = λ m j fits board. short b limited m j fits board;
}
