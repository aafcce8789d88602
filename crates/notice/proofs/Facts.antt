-- What a notice record that is read gives, as facts on its bytes; and a kept length.
-- Assumes nothing.
use mathlib.Core.Path.{◌≡◌}
use Prim.Native.Nat.{ℕ, ◌+◌, ◌≤◌}
use mathlib.Core.List.{List}
use mathlib.Core.Bool.{Bool, true, false}
use native.Mathlib.Omega.{arith}
use borrow.Author.Tests.{leb-true, eqb-true}
use lib.ListN.{length, get_or}
use lib.Dec.{leb, eqb}
use Rattle.octets.specs.Bytes.{pick, two_at}
use Rattle.octets.specs.Sets.{has}
use Rattle.octets.proofs.Picks.{and_l, and_r}
use Rattle.record.proofs.Facts.{passed}
use Rattle.record.specs.Form.{Form}
use Rattle.notice.specs.Form.{is_notice_kind, notice_most, parse_notice, notice_form}
use Rattle.notice.specs.State.{NoticeState, heard_of}
use Rattle.notice.specs.Sound.{notice_length_ok}

-- a kind is 4, 5 or 6
pub notice_kind_few : (k : ℕ) → is_notice_kind k ≡ true → (4 ≤ k) × (k ≤ 6)
unfolding is_notice_kind
notice_kind_few k h = (leb-true 4 k (and_l _ _ h), leb-true k 6 (and_r (leb 4 k) _ h))

-- the facts of a whole record
pub record NoticeWhole (s : List ℕ) (k p f : ℕ) : Type 0 where
  pub no_path : p ≡ 0
  pub most : f ≤ notice_most
  pub ends : 3 + f ≡ length s
  pub kind : get_or s 0 0 ≡ k
  pub count : two_at s 1 ≡ f
  pub kind_ok : is_notice_kind k ≡ true

pub notice_whole : (s : List ℕ) (k p f : ℕ) → parse_notice s ≡ Form k p f → NoticeWhole s k p f
unfolding parse_notice
notice_whole s k p f e =
    let h1 = passed (leb (0 + 1) (length s)) _ _ _ _ _ _ e in
    let h2 = passed (is_notice_kind (get_or s 0 0)) _ _ _ _ _ _ h1.1 in
    let h3 = passed (leb (1 + 2) (length s)) _ _ _ _ _ _ h2.1 in
    let h4 = passed (leb (two_at s 1) notice_most) _ _ _ _ _ _ h3.1 in
    let h5 = passed (leb (3 + two_at s 1) (length s)) _ _ _ _ _ _ h4.1 in
    let h6 = passed (leb (length s) (3 + two_at s 1)) _ _ _ _ _ _ h5.1 in
    let g : two_at s 1 ≡ f = cc h6.1 in
    let d : get_or s 0 0 ≡ k = cc h6.1 in
    let z : 0 ≡ p = cc h6.1 in
    let u : 3 + two_at s 1 ≤ length s = leb-true (3 + two_at s 1) (length s) h5.0 in
    let v : length s ≤ 3 + two_at s 1 = leb-true (length s) (3 + two_at s 1) h6.0 in
    let m : two_at s 1 ≤ notice_most = leb-true (two_at s 1) notice_most h4.0 in
    record { no_path = omega arith; most = omega arith; ends = omega arith; kind = d; count = g; kind_ok = rw d at h2.0 }

-- a notice that has a form
pub record NoticeKnown (k len k' p f : ℕ) : Type 0 where
  pub kind : k ≡ k'
  pub kind_ok : is_notice_kind k ≡ true
  pub no_path : p ≡ 0
  pub bytes : len ≡ f
  pub most : len ≤ notice_most

pub notice_known : (k len k' p f : ℕ) → notice_form k len ≡ Form k' p f → NoticeKnown k len k' p f
unfolding notice_form
notice_known k len k' p f h =
    let h1 = passed (is_notice_kind k) _ _ _ _ _ _ h in
    let h2 = passed (leb len notice_most) _ _ _ _ _ _ h1.1 in
    let d : k ≡ k' = cc h2.1 in
    let z : 0 ≡ p = cc h2.1 in
    let g : len ≡ f = cc h2.1 in
    record { kind = d; kind_ok = h1.0; no_path = omega arith; bytes = g; most = leb-true len notice_most h2.0 }

-- a length that is in order is at most 64
pub length_short : (v : NoticeState) (k i : ℕ) → notice_length_ok v k i ≡ true → v.len k i ≤ notice_most
unfolding notice_length_ok pick
length_short v k i h = go (has (heard_of k v.heard) i) h
  where
    go : (c : Bool) → pick c (leb (v.len k i) notice_most) (eqb (v.len k i) 0) ≡ true → v.len k i ≤ notice_most
    go true e = leb-true (v.len k i) notice_most e
    go false e = omega (arith, eqb-true (v.len k i) 0 e)
