-- A board that keeps nothing but echoes and votes, and delivers the value that n - t votes name.
use Rattle.std.specs.Prelude.{ℕ, Bool, true, false, ◌&&◌, ◌||◌}
use Rattle.std.proofs.Math.Option.{Option, some, none}
use Rattle.octets.specs.Bytes.{pick}
use Rattle.line.specs.Run.{Machine, Input}
use Rattle.line.specs.Core.{Word, echo, vote, Core, Move, still, acquire, hear, quorum, moved, said}

pub record Simple (Val : Type 0) : Type 0 where
  pub core : Core Val
  pub done : Bool

-- a kind of such boards: its records, and what it does with what comes to it
pub record Kind (Val : Type 0) : Type 1 where
  pub Order : Type 0
  pub Rec : Type 0
  pub write : Word → Val → Rec
  pub move : Simple Val → Input Order Rec → Move Val

abbrev pub given : {A : Type 0} → Option A → Bool
given none = false
given (some a) = true

module _ (n t : ℕ) {Val : Type 0} (same : Val → Val → Bool) (K : Kind Val) where
  -- source document 000, figure 4: "voted and for some m: received (vote, m) from n - t distinct parties"
  abbrev pub full : Core Val → Val → Bool
  full c v = c.spoke vote && quorum n t same c v

  -- what a move delivers
  abbrev pub delivered_by : Core Val → Move Val → Option Val
  delivered_by c still = none
  delivered_by c (acquire o) = none
  delivered_by c (hear w i v) = pick (full (moved n t same c (hear w i v)) v) (some v) none

  abbrev pub written_by : Option Val → Option Val → Option K.Rec
  written_by none none = none
  written_by none (some v) = some (K.write vote v)
  written_by (some v) o = some (K.write echo v)

  -- blank: what stands where nothing was kept yet
  abbrev pub simple : (ℕ → Val) → Machine
  simple blank = record {
    State = Simple Val;
    Order = K.Order;
    Rec = K.Rec;
    Result = Val;
    start = λ j. record { core = record { spoke = λ w. false; set = λ w i. false; val = λ w i. blank i }; done = false };
    next = λ s x. record { core = moved n t same s.core (K.move s x); done = s.done || given (delivered_by s.core (K.move s x)) };
    puts = λ s x k. written_by (said n t same s.core (K.move s x) echo) (said n t same s.core (K.move s x) vote);
    gives = λ s x. delivered_by s.core (K.move s x);
  }
