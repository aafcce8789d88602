-- What the sender's record is: a send that is well formed, whose path is correct for its board; and the promise fixes one outcome.
-- Assumes nothing.
use mathlib.Core.Path.{◌≡◌, refl, sym, ap, ◌∙◌}
use mathlib.Core.Bool.{true}
use mathlib.Core.List.{List}
use Prim.Native.Nat.{ℕ, ◌+◌, ◌-◌, ◌*◌, ◌≤◌}
use native.Mathlib.Nat as N
use native.Mathlib.Omega.{arith}
use borrow.Author.Tests.{le-leb, le-ltb}
use lib.Dec.{leb}
use lib.ListN.{length}
use Rattle.octets.specs.Bytes.{pick, part, put}
use Rattle.octets.proofs.Picks.{and_on}
use Rattle.octets.proofs.Puts.{part_put}
use Rattle.table.specs.Table.{limits, is_board, k_of, s_max}
use Rattle.table.specs.declared.Table.{Table}
use Rattle.table.proofs.Within.{within, k_pos, s_max_le, board_number}
use Rattle.code.specs.Block.{rows}
use Rattle.code_encode.specs.Message.{fragment_for}
use Rattle.code_encode.proofs.Patches.{some_row}
use Rattle.code_encode.proofs.Sizes.{rows_most, fragment_length}
use Rattle.tree.specs.Tree.{tree_of, depth, root_of, path_of, flat}
use Rattle.tree.specs.Check.{path_correct}
use Rattle.tree.proofs.Checks.{root_length, path_length, depth_small, own_path}
use Rattle.record.specs.Form.{Form, out_bytes, parse, is_kind, nodes_most, fragment_ok, record_of}
use Rattle.record.proofs.Round.{read_back}
use Rattle.board_send.specs.Sent.{send_refusal, send_record, SendOut, send_out, send_by, send_of}
use Rattle.refusal.specs.declared.Sized.{Sized}
use Rattle.record.proofs.Sections.{record_length, record_root, record_path, record_fragment}

-- a send of so many path nodes and fragment bytes reads back as one
send_reads : (p : ℕ) (root path frag : List ℕ) → length root ≡ 32 → p ≤ 6 → length path ≡ 32 * p → 1 ≤ length frag → length frag ≤ 16388
    → parse (record_of 1 root p path frag) ≡ Form 1 p (length frag)
unfolding is_kind nodes_most fragment_ok pick
send_reads p root path frag hr hp hl low high =
    read_back 1 p root path frag refl hr hp (omega arith) hl
    (and_on (leb 1 (length frag)) (leb (length frag) 16388) (le-leb 1 (length frag) low) (le-leb (length frag) 16388 high)) (omega arith)

-- the record r of board `to`, as its reader finds it
pub record Formed (b : Table) (message : List ℕ) (to : ℕ) (r : List ℕ) : Type 0 where
  pub reads : parse r ≡ Form 1 (depth (tree_of b.n) (to - 1)) (rows (k_of b) (length message))
  pub size : length r ≡ 39 + 32 * depth (tree_of b.n) (to - 1) + rows (k_of b) (length message)
  pub most : length r ≤ out_bytes
  pub nodes : depth (tree_of b.n) (to - 1) ≤ 6
  pub some : 1 ≤ rows (k_of b) (length message)
  pub short : rows (k_of b) (length message) ≤ s_max b
  -- its root, its path and its fragment
  pub root : part 3 32 r ≡ root_of b.n (fragment_for b message)
  pub path : part 37 (32 * depth (tree_of b.n) (to - 1)) r ≡ flat (path_of b.n (fragment_for b message) (to - 1))
  pub fragment : part (39 + 32 * depth (tree_of b.n) (to - 1)) (rows (k_of b) (length message)) r ≡ fragment_for b message (to - 1)

module _ (b : Table) (message : List ℕ) (to : ℕ) (limited : limits b ≡ true) (low : 1 ≤ to) (high : to ≤ b.n) (fits : length message ≤ b.longest) where
  -- the record is well formed and reads back as a send
  pub send_form : Formed b message to (send_record b message to)
  unfolding send_record
  send_form =
      let w = within b limited in
      let pos = k_pos b w in
      let fs = fragment_for b message in
      let i = to - 1 in
      let p = depth (tree_of b.n) i in
      let len = rows (k_of b) (length message) in
      let hr = root_length b.n fs in
      let hl = path_length b.n fs i in
      let hf = fragment_length b message i pos in
      let hp : p ≤ 6 = depth_small b.n i w.few (omega arith) in
      let some : 1 ≤ len = some_row (k_of b) len message pos (N.le_refl len) in
      let short = rows_most b (length message) pos fits in
      let size = record_length 1 p (root_of b.n fs) (flat (path_of b.n fs i)) (fs i) hr hl in
      let limit = s_max_le b w in
      record {
        reads = send_reads p (root_of b.n fs) (flat (path_of b.n fs i)) (fs i) hr hp hl (omega arith) (omega arith) ∙ ap (Form 1 p) hf;
        size = size ∙ ap (λ (m : ℕ). 39 + 32 * p + m) hf;
        most = omega arith;
        nodes = hp;
        some = some;
        short = short;
        root = record_root 1 p (root_of b.n fs) (flat (path_of b.n fs i)) (fs i) hr hl;
        path = record_path 1 p (root_of b.n fs) (flat (path_of b.n fs i)) (fs i) hr hl;
        fragment = record_fragment 1 p (root_of b.n fs) (flat (path_of b.n fs i)) (fs i) hr hl len hf;
      }

  -- the path in it is correct for its board under the root in it
  pub send_path : path_correct b.n to (part 3 32 (send_record b message to)) (part 37 (32 * depth (tree_of b.n) (to - 1)) (send_record b message to))
      (part (39 + 32 * depth (tree_of b.n) (to - 1)) (rows (k_of b) (length message)) (send_record b message to)) ≡ true
  send_path =
      let f = send_form in
      let w = within b limited in
      let pos = k_pos b w in
      let len = fragment_length b message (to - 1) pos in
      let most = s_max_le b w in
      rw (f.root, f.path, f.fragment) (own_path b.n to (fragment_for b message) (w.one, w.few) (low, high) (omega (arith, f.short)))

-- the promise fixes the answer and the buffer
pub send_one : (b : Table) (message : List ℕ) (to : ℕ) (out : List ℕ) (x y : Sized) (o r : List ℕ) → send_out x o ≡ send_of b message to out → send_out y r ≡ send_of b message to out
    → (x ≡ y) × (o ≡ r)
send_one b message to out x y o r e f =
    let g : send_out x o ≡ send_out y r = e ∙ sym f in
    (ap (λ (s : SendOut). s.answer) g, ap (λ (s : SendOut). s.out) g)

-- the sender's call, where nothing is refused: its record stands at the front of the buffer
module _ (b : Table) (message : List ℕ) (to : ℕ) (out : List ℕ)
    (limited : limits b ≡ true) (fits : length message ≤ b.longest) (board : is_board b to ≡ true) (room : out_bytes ≤ length out) where
  none_refused : send_refusal b message to out ≡ 0
  unfolding send_refusal pick
  none_refused = rw (limited, le-ltb (length out) out_bytes room, board, le-ltb b.longest (length message) fits)

  pub record Sending (x : Sized) (new : List ℕ) : Type 0 where
    pub record_front : part 0 x.length new ≡ send_record b message to
    pub most : x.length ≤ out_bytes

  pub sent_front : (x : Sized) (new : List ℕ) → send_out x new ≡ send_of b message to out → Sending x new
  unfolding send_of send_by
  sent_front x new e =
      let z = e ∙ ap (λ (q : ℕ). send_by q b message to out) none_refused in
      let (one, few) = board_number b to board in
      let f = send_form b message to limited one few fits in
      let l : x.length ≡ length (send_record b message to) = ap (λ w. w.answer.length) z in
      let n : new ≡ put 0 (send_record b message to) out = ap (λ w. w.out) z in
      record {
        record_front = rw (n, l) (part_put 0 (length (send_record b message to)) (send_record b message to) out refl (omega (arith, f.most)));
        most = omega (arith, f.most);
      }
