-- The steps one after the other: what is printed, and what is still to be.
use mathlib.Core.Path.{◌≡◌, refl, sym, ap, ◌∙◌}
use Prim.Native.Nat.{ℕ, suc, ◌+◌, ◌-◌, ◌*◌, ◌≤◌, ◌<◌}
use mathlib.Core.List.{List, [], ◌++◌, append_assoc}
use mathlib.Core.Bool.{true, false}
use native.Mathlib.Omega.{arith}
use borrow.Author.Tests.{lt-ltb, le-ltb}
use lib.ListN.{length}
use Rattle.octets.specs.Bytes.{pick}
use Rattle.table.specs.declared.Table.{Table}
use Rattle.drill_words.specs.Words.{upto, past}
use Rattle.drill_lines.specs.Lines.{Breakers, right_step}
use Rattle.drill_boards.specs.Held.{Boards}
use Rattle.drill_step.specs.Boards.{turn, turn_of}
use Rattle.drill_step.specs.declared.Room.{Room}
use Rattle.drill_step.specs.Asked.{DrillRoom, SameRoom, boards_of}
use Rattle.drill_print.specs.Text.{Shown, line_text, bad}
use Rattle.drill_print.specs.Printed.{Wrote}
use Rattle.drill_print.specs.declared.Page.{Page}
use Rattle.drill_print.proofs.Prints.{wrote_none, wrote_both}
use Rattle.drill_open.specs.Next.{Line}
use Rattle.drill_open.specs.Opened.{line_right}
use Rattle.drill_open.proofs.Opens.{missing, next}
use Rattle.drill.specs.Drill.{steps_from}

pub same_both : {a b c : Room} → SameRoom a b → SameRoom b c → SameRoom a c
same_both x y = record {
  states_same = y.states_same ∙ x.states_same;
  kept_same = y.kept_same ∙ x.kept_same;
  handed_same = y.handed_same ∙ x.handed_same;
  out_same = y.out_same ∙ x.out_same;
  delivery_same = y.delivery_same ∙ x.delivery_same;
}

pub same_room : (a : Room) → SameRoom a a
same_room a = record { states_same = refl; kept_same = refl; handed_same = refl; out_same = refl; delivery_same = refl }

module _ (b : Table) (x : Breakers) (message : List ℕ) (n k : ℕ) (rest : List ℕ) (B : Boards) where
  steps_bad : (m : ℕ) → n ≡ suc m → line_right (right_step b x) rest ≡ false → steps_from b x message n k rest B ≡ bad (k + 4)
  unfolding steps_from pick
  steps_bad m e h = rw (e, h)

  steps_more : (m : ℕ) → n ≡ suc m → line_right (right_step b x) rest ≡ true → (l more : List ℕ) → l ≡ upto 10 rest → more ≡ past 10 rest
      → (s : Shown) (w : List ℕ) (B' : Boards) → turn s w B' ≡ turn_of b message B l
      → steps_from b x message n k rest B ≡ line_text k l s w ++ steps_from b x message m (k + 1) more B'
  unfolding steps_from pick
  steps_more m e h l more el em s w B' t = rw (e, em, h, ← el, ← t)

  steps_over : n ≡ 0 → 0 < length rest → steps_from b x message n k rest B ≡ bad (k + 4)
  unfolding steps_from pick
  steps_over e h = rw (e, lt-ltb 0 (length rest) h)

  steps_done : n ≡ 0 → length rest ≤ 0 → steps_from b x message n k rest B ≡ []
  unfolding steps_from pick
  steps_done e h = rw (e, le-ltb 0 (length rest) h)

-- before step k
pub record Going (b : Table) (x : Breakers) (message : List ℕ) (count : ℕ) (start : List ℕ) (room₀ : Room) (page₀ : Page) (k : ℕ) (rest : List ℕ) (room : Room) (page : Page) : Type 0 where
  pub printed : List ℕ
  pub wrote : Wrote printed page₀ page
  pub left : printed ++ steps_from b x message (count + 1 - k) k rest (boards_of room) ≡ steps_from b x message count 1 start (boards_of room₀)
  pub lengths : DrillRoom room
  pub same : SameRoom room₀ room
  pub few : page.at + 154 ≤ page₀.at + 154 * k

module _ (b : Table) (x : Breakers) (message : List ℕ) (count : ℕ) (start : List ℕ) (room₀ : Room) (page₀ : Page) where
  pub going_start : DrillRoom room₀ → Going b x message count start room₀ page₀ 1 start room₀ page₀
  going_start d = record {
    printed = [];
    wrote = wrote_none page₀;
    left = let q : count + 1 - 1 ≡ count = omega arith in ap (λ (n : ℕ). steps_from b x message n 1 start (boards_of room₀)) q;
    lengths = d;
    same = same_room room₀;
    few = omega arith;
  }

  module _ (k : ℕ) (rest : List ℕ) (room : Room) (page : Page) (g : Going b x message count start room₀ page₀ k rest room page) where
    pub going_none : 1 ≤ k → k ≤ count → length rest ≡ 0 → g.printed ++ bad (k + 4) ≡ steps_from b x message count 1 start (boards_of room₀)
    going_none o h e =
        let n : count + 1 - k ≡ suc (count - k) = omega arith in
        ap (λ (l : List ℕ). g.printed ++ l) (sym (steps_bad b x message (count + 1 - k) k rest (boards_of room) (count - k) n (missing (right_step b x) rest e))) ∙ g.left

    pub going_bad : (l more : List ℕ) → 1 ≤ k → k ≤ count → Line rest l more → right_step b x l ≡ false → g.printed ++ bad (k + 4) ≡ steps_from b x message count 1 start (boards_of room₀)
    going_bad l more o h n e =
        let m : count + 1 - k ≡ suc (count - k) = omega arith in
        ap (λ (l : List ℕ). g.printed ++ l) (sym (steps_bad b x message (count + 1 - k) k rest (boards_of room) (count - k) m (next (right_step b x) rest l more false n e))) ∙ g.left

    pub going_more : (l more : List ℕ) (s : Shown) (w : List ℕ) (room' : Room) (page' : Page) → 1 ≤ k → k ≤ count → Line rest l more → right_step b x l ≡ true
        → turn s w (boards_of room') ≡ turn_of b message (boards_of room) l → Wrote (line_text k l s w) page page' → page'.at ≤ page.at + 154
        → DrillRoom room' → SameRoom room room' → Going b x message count start room₀ page₀ (k + 1) more room' page'
    going_more l more s w room' page' o h n e t v f d r = record {
      printed = g.printed ++ line_text k l s w;
      wrote = wrote_both g.wrote v;
      left =
          let m : count + 1 - k ≡ suc (count + 1 - (k + 1)) = omega arith in
          append_assoc g.printed (line_text k l s w) (steps_from b x message (count + 1 - (k + 1)) (k + 1) more (boards_of room'))
          ∙ ap (λ (l : List ℕ). g.printed ++ l)
          (sym (steps_more b x message (count + 1 - k) k rest (boards_of room) (count + 1 - (k + 1)) m (next (right_step b x) rest l more true n e) l more n.line_is n.rest_is s w (boards_of room') t))
          ∙ g.left;
      lengths = d;
      same = same_both g.same r;
      few = let q = g.few in omega arith;
    }

    pub going_over : count < k → 0 < length rest → k ≡ count + 1 → g.printed ++ bad (count + 5) ≡ steps_from b x message count 1 start (boards_of room₀)
    going_over h e z =
        let n : count + 1 - k ≡ 0 = omega arith in
        let q : count + 5 ≡ k + 4 = omega arith in
        rw q (ap (λ (l : List ℕ). g.printed ++ l) (sym (steps_over b x message (count + 1 - k) k rest (boards_of room) n e)) ∙ g.left)

    pub going_done : count < k → length rest ≤ 0 → g.printed ++ [] ≡ steps_from b x message count 1 start (boards_of room₀)
    going_done h e =
        let n : count + 1 - k ≡ 0 = omega arith in
        ap (λ (l : List ℕ). g.printed ++ l) (sym (steps_done b x message (count + 1 - k) k rest (boards_of room) n e)) ∙ g.left
