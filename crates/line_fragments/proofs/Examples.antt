-- What is asked of hash, tree, code and records can be met together, and the step on paper: boards whose messages, fragments, roots and
-- strings are numbers, each its own hash and its own fragments.
use Prim.Native.Nat.{ℕ, ◌<◌, ◌*◌}
use native.Mathlib.Omega.{arith}
use mathlib.Core.Bool.{Bool, true, false}
use mathlib.Core.Path.{◌≡◌, refl, sym, ◌∙◌}
use mathlib.Core.Logic.{inl}
use mathlib.Core.Option.{some}
use lib.Dec.{eqb, eqb→eq, eqb_refl}
use Rattle.octets.specs.Bytes.{pick}
use Rattle.line.specs.Boards.{count, Keepers}
use Rattle.line.specs.Run.{Machine, hand, Run, fresh, after, state, Delivered, Fair}
use Rattle.line.specs.Promise.{Mail, Promise}
use Rattle.line.specs.Core.{Word, named_by, due_by}
use Rattle.line_fragments.specs.Code.{Code}
use Rattle.line_fragments.specs.Step.{Record, send, echo, vote, Line, enough_by, usable_naming, board, mail}
use Rattle.line_fragments.specs.Hashed.{hashes, CollisionIn}
use Rattle.line_fragments.specs.Laws.{CodeLaws, LineLaws, MailLaws}
use Rattle.line_fragments.proofs.Promises.{kept}

abbrev numbers : Code
numbers = record {
  Msg = ℕ;
  Frag = ℕ;
  Root = ℕ;
  Path = Unit {0};
  Str = ℕ;
  hash = λ y. y;
  Fits = λ m. Unit {0};
  piece = λ m i. m;
  root = λ m. m;
  path = λ m i. tt;
  coded = λ m y. y ≡ m;
  Proper = λ f. Unit {0};
  check = λ r i f π. eqb r f;
  checked = λ r i f π y. y ≡ f;
  result = λ v U F. some v;
  fresh = λ v U F y. y ≡ v;
}

-- S is board 1
abbrev line : (n t : ℕ) → Line n t numbers
line n t = record { S = 1; Bytes = Record ℕ (Unit {0}) ℕ; read = λ b. some b; write = λ b. b; short = λ f. true; same = eqb }

code_laws : (n t : ℕ) → CodeLaws n t numbers
code_laws n t = record {
  path_good = λ m i fm b. eqb_refl m;
  path_binds = λ m i f π fm b c. inl (sym (eqb→eq m f c));
  result_back = λ m U F fm k h. refl;
  result_root = λ v U F m p e. (tt, (cc));
  result_fresh = λ v U F m y e c. c ∙ (cc);
}

line_laws : (n t : ℕ) → 3 * t < n → LineLaws (line n t)
line_laws n t h = record {
  third = h;
  sender = record { low = omega arith; high = omega arith };
  same_eq = λ u v. eqb→eq u v;
  same_refl = eqb_refl;
  echo_back = λ b r π f e. refl;
  vote_back = λ b r e. refl;
  vote_of_echo = λ b r π f e. refl;
}

mail_laws : (n t : ℕ) → MailLaws (line n t)
mail_laws n t = record { read_proper = λ b r π f e. tt; send_back = λ m j fm b. refl; piece_short = λ m j fm b. tt }

abbrev boards : ℕ → ℕ → Machine
boards n t = board (line n t) (λ i. 0) (λ i. 0)

-- so these boards keep the promise
promised : (n t : ℕ) → 3 * t < n → {keeps : ℕ → Bool} → Keepers n t keeps → (m : ℕ) → {r : Run (boards n t)} → Fair (boards n t) keeps (Mail n 1 (mail (line n t) m)) r
    → Promise (boards n t) keeps 1 (Mail n 1 (mail (line n t) m)) (some m) (CollisionIn numbers (boards n t) (hashes (line n t)) keeps 1 m r) r
promised n t h K m f = kept (line_laws n t h) (λ i. 0) (λ i. 0) (code_laws n t) (mail_laws n t) K m tt f

-- the run of document 01's drill: n 1, t 0, and the board's own send, echo and vote
drill : Delivered (boards 1 0) 1 (some 65) (after (after (after fresh 1 (hand 1 (send 65 tt 65))) 1 (hand 1 (echo 65 tt 65))) 1 (hand 1 (vote 65)))
unfolding state pick count due_by enough_by
drill = Delivered.now refl

-- n 4, t 1: three echoes of the root 7 with a fragment that is not of it
abbrev unusable : Run (boards 4 1)
unusable = after (after (after fresh 1 (hand 2 (echo 7 tt 8))) 1 (hand 3 (echo 7 tt 8))) 1 (hand 4 (echo 7 tt 8))

-- document 01, an error a builder is drawn to: "Dropping unusable echoes from the count, or using them to rebuild." They bring a vote,
unusable_count : (state (boards 4 1) unusable 1).core.spoke Word.vote ≡ true
unfolding state pick count due_by enough_by
unusable_count = refl

-- and none of them is used
unusable_unused : count (usable_naming (line 4 1) (state (boards 4 1) unusable 1) 7) 4 ≡ 0
unfolding state pick count due_by enough_by
unusable_unused = refl

-- n 4, t 1: the output stage opens on the root 7, and two usable echoes name the root 9
abbrev two_roots : Run (boards 4 1)
two_roots =
    after (after (after (after (after fresh 1 (hand 2 (vote 7))) 1 (hand 3 (vote 7))) 1 (hand 4 (vote 7))) 1 (hand 2 (echo 9 tt 9))) 1 (hand 3 (echo 9 tt 9))

-- "once k usable echoes name that root": not another
other_root : (state (boards 4 1) two_roots 1).done ≡ false
unfolding state pick count due_by enough_by
other_root = refl

-- board 2 echoes the root 7, and then 8: only the first is kept
first_echo : usable_naming (line 4 1) (state (boards 4 1) (after (after fresh 1 (hand 2 (echo 7 tt 7))) 1 (hand 2 (echo 8 tt 8))) 1) 7 2 ≡ true
unfolding state pick count due_by enough_by
first_echo = refl

-- board 2 votes for the root 7, and then for 8: only the first is kept
first_vote : named_by eqb (state (boards 4 1) (after (after fresh 1 (hand 2 (vote 7))) 1 (hand 2 (vote 8))) 1).core Word.vote 7 2 ≡ true
unfolding state pick count due_by enough_by
first_vote = refl
