-- What is written is read back the same, and what is read was so written.
use mathlib.Core.Path.{◌≡◌, refl, sym, ap, ◌∙◌}
use Prim.Native.Nat.{ℕ, suc, ◌+◌, ◌*◌, ◌/◌, ◌%◌, ◌≤◌, ◌<◌}
use mathlib.Core.List.{List, [], ◌∷◌, ◌++◌, append_assoc, append-nil}
use mathlib.Core.Bool.{true}
use native.Mathlib.Omega.{arith}
use native.Mathlib.Nat.{add-zero}
use borrow.Author.Tests.{le-leb}
use lib.ListN.{length, get_or, take, drop, length-append, take-append-drop}
use lib.Seq.{get_or-append-add, drop-cons, drop-drop, drop-length}
use native.Mathlib.Numerals.{add-one}
use Rattle.octets.proofs.Laws.{length_part}
use Rattle.record.proofs.Facts.{whole}
use Rattle.octets.specs.Bytes.{pick, two_at, two, part}
use Rattle.record.specs.Form.{Form, parse, parse_root, parse_path, parse_fragment, is_kind, nodes_most, fragment_ok, record_of}

-- a two-byte number within a string is read
pub two_mid : (v w : List ℕ) (x a : ℕ) → length v ≡ a → x < 65536 → two_at (v ++ (two x ++ w)) a ≡ x
two_mid v w x a e h =
    let p : get_or (v ++ (two x ++ w)) (length v + 0) 0 ≡ x / 256 % 256 = get_or-append-add v (two x ++ w) 0 0 in
    let q : get_or (v ++ (two x ++ w)) (length v + 1) 0 ≡ x % 256 = get_or-append-add v (two x ++ w) 1 0 in
    rw (← e, rw add-zero at p, q) (omega arith)

-- fields that are in order are read
parse_at : (s : List ℕ) (k p f : ℕ) → get_or s 0 0 ≡ k → is_kind k ≡ true → two_at s 1 ≡ 32 → two_at s 35 ≡ p → p ≤ nodes_most k
    → two_at s (37 + 32 * p) ≡ f → fragment_ok k f ≡ true → 39 + 32 * p + f ≡ length s → parse s ≡ Form k p f
unfolding parse parse_root parse_path parse_fragment pick
parse_at s k p f ek hk e1 e35 hp ef hf el =
    rw (
      le-leb (0 + 1) (length s) (omega arith),
      ek,
      hk,
      le-leb (1 + 2) (length s) (omega arith),
      e1,
      le-leb (3 + 32) (length s) (omega arith),
      le-leb (35 + 2) (length s) (omega arith),
      e35,
      le-leb p (nodes_most k) hp,
      le-leb (37 + 32 * p) (length s) (omega arith),
      le-leb (37 + 32 * p + 2) (length s) (omega arith),
      ef,
      hf,
      le-leb (37 + 32 * p + 2 + f) (length s) (omega arith),
      le-leb (length s) (37 + 32 * p + 2 + f) (omega arith),
    )

-- what is written is read back the same
pub read_back : (k p : ℕ) (root path frag : List ℕ) → is_kind k ≡ true → length root ≡ 32 → p ≤ nodes_most k → p < 65536 → length path ≡ 32 * p
    → fragment_ok k (length frag) ≡ true → length frag < 65536 → parse (record_of k root p path frag) ≡ Form k p (length frag)
unfolding record_of
read_back k p root path frag hk hr hp pb hl hf fb =
    let s = record_of k root p path frag in
    let v = k ∷ 0 ∷ 32 ∷ ((root ++ two p) ++ path) in
    let e : s ≡ v ++ (two (length frag) ++ frag) = simp append_assoc in
    let l : length v ≡ 37 + 32 * p = simp length-append (omega arith) in
    parse_at s k p (length frag) refl hk refl (two_mid (k ∷ 0 ∷ 32 ∷ root) (path ++ (two (length frag) ++ frag)) p 35 (omega arith) pb) hp
    (rw e (two_mid v frag (length frag) (37 + 32 * p) l fb)) hf
    (simp length-append (omega arith))

two_of : (x y : ℕ) → x < 256 → y < 256 → two (x * 256 + y) ≡ x ∷ y ∷ []
two_of x y h k =
    let e : (x * 256 + y) / 256 % 256 ≡ x = omega arith in
    let f : (x * 256 + y) % 256 ≡ y = omega arith in
    rw (e, f)

-- bytes from a on: a two-byte number and the rest; a part and the rest
pub drop_two : (s : List ℕ) (a b n : ℕ) → ((i : ℕ) → get_or s i 0 < 256) → a + 2 ≡ b → b ≤ length s → two_at s a ≡ n → drop a s ≡ two n ++ drop b s
drop_two s a b n h e l t =
    drop-cons s a 0 (omega arith)
    ∙ ap (λ (x : List ℕ). get_or s a 0 ∷ x) (ap (λ (i : ℕ). drop i s) (sym (add-one a)) ∙ drop-cons s (a + 1) 0 (omega arith))
    ∙ ap (λ (i : ℕ). get_or s a 0 ∷ get_or s (a + 1) 0 ∷ drop i s) (let z : suc (a + 1) ≡ b = omega arith in z)
    ∙ ap (λ (x : List ℕ). x ++ drop b s) (sym (two_of (get_or s a 0) (get_or s (a + 1) 0) (h a) (h (a + 1))) ∙ ap two t)

pub drop_part : (s : List ℕ) (a n b : ℕ) → a + n ≡ b → drop a s ≡ part a n s ++ drop b s
unfolding part
drop_part s a n b e = sym (take-append-drop n (drop a s)) ∙ ap (λ (x : List ℕ). take n (drop a s) ++ x) (drop-drop n a s ∙ ap (λ (i : ℕ). drop i s) e)

-- what is read was so written
pub write_back : (s : List ℕ) (k p f : ℕ) → ((i : ℕ) → get_or s i 0 < 256) → parse s ≡ Form k p f
    → s ≡ record_of k (part 3 32 s) p (part 37 (32 * p) s) (part (39 + 32 * p) f s)
unfolding record_of
write_back s k p f h e =
    let w = whole s k p f e in
    let b = 37 + 32 * p in
    let c = 39 + 32 * p in
    let lf : length (part c f s) ≡ f = length_part c f s (omega (arith, w.ends)) in
    let last : drop c s ≡ part c f s = drop_part s c f (length s) w.ends ∙ ap (λ (x : List ℕ). part c f s ++ x) (drop-length s) ∙ append-nil (part c f s) in
    drop-cons s 0 0 (omega (arith, w.ends))
    ∙ ap (λ (x : ℕ). x ∷ drop 1 s) w.kind
    ∙ ap (λ (x : List ℕ). k ∷ x) (drop_two s 1 3 32 h (omega arith) (omega (arith, w.ends)) w.root_count)
    ∙ ap (λ (x : List ℕ). k ∷ (two 32 ++ x)) (drop_part s 3 32 35 (omega arith))
    ∙ ap (λ (x : List ℕ). k ∷ (two 32 ++ (part 3 32 s ++ x))) (drop_two s 35 37 p h (omega arith) (omega (arith, w.ends)) w.path_count)
    ∙ ap (λ (x : List ℕ). k ∷ (two 32 ++ (part 3 32 s ++ (two p ++ x)))) (drop_part s 37 (32 * p) b (omega arith))
    ∙ ap (λ (x : List ℕ). k ∷ (two 32 ++ (part 3 32 s ++ (two p ++ (part 37 (32 * p) s ++ x)))))
    (drop_two s b c f h (omega arith) (omega (arith, w.ends)) w.fragment_count ∙ ap (λ (x : List ℕ). two f ++ x) last ∙ ap (λ (n : ℕ). two n ++ part c f s) (sym lf))

-- document 01, "Checked by hand": a vote record has 39 bytes
pub vote_length : (root : List ℕ) → length root ≡ 32 → length (record_of 3 root 0 [] []) ≡ 39
unfolding record_of
vote_length root h = simp length-append (omega arith)
