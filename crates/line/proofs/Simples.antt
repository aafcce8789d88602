-- A board with nothing but a core meets what the quorum facts and the promise ask.
use Prim.Native.Nat.{ℕ, ◌-◌, ◌*◌, ◌≤◌, ◌<◌}
use native.Mathlib.Omega.{arith}
use mathlib.Core.Bool.{Bool, true, false, not, ◌&&◌, ◌||◌}
use mathlib.Core.Path.{◌≡◌, refl, subst, sym, ◌∙◌, ap}
use mathlib.Core.Logic.{◌⊎◌, inl, inr}
use mathlib.Core.Option.{Option, some, none}
use lib.Dec.{T, T_not}
use Rattle.octets.specs.Bytes.{pick}
use Rattle.line.specs.Boards.{count, Board}
use Rattle.line.specs.Run.{Input, hand}
use Rattle.line.specs.Core.{Word, echo, vote, Core, Move, still, acquire, hear, keep, named_by, due, moved, said}
use Rattle.line.specs.Plain.{Simple, Kind, given, full, delivered_by, written_by, simple}
use Rattle.line.proofs.Tests.{both, left, right, truth, or_cases, or_left, or_right, off, none_some, chosen}
use Rattle.line.proofs.Results.{Ends}
use Rattle.line.proofs.Cores.{NotOverdue, HasCore, reading, echo_vote, new_count, quorum_why, quorum_is}

-- what the kind must meet
pub record KindLaws (n t : ℕ) {Val : Type 0} (same : Val → Val → Bool) (K : Kind Val) : Type 1 where
  pub third : 3 * t < n
  pub same_eq : (u v : Val) → T (same u v) → u ≡ v
  pub same_refl : (v : Val) → T (same v v)
  pub Says : Word → K.Rec → Val → Type 0
  pub says_one : (w w' : Word) (u v : Val) → Says w (K.write w' u) v → (w ≡ w') × (u ≡ v)
  pub hear_why : (s : Simple Val) (x : Input K.Order K.Rec) (w : Word) (i : ℕ) (v : Val) → K.move s x ≡ hear w i v
      → ((ρ : K.Rec) × (x ≡ hand i ρ) × Says w ρ v) × T (not (s.core.set w i)) × Says vote (K.write vote v) v
  pub hear_in : (s : Simple Val) (i : ℕ) (ρ : K.Rec) (w : Word) (v : Val) → Board n i → Says w ρ v → T (not s.done) → T (not (s.core.set w i))
      → K.move s (hand i ρ) ≡ hear w i v
  pub acquire_why : (s : Simple Val) (x : Input K.Order K.Rec) (o : Option Val) → K.move s x ≡ acquire o
      → T (not (s.core.spoke echo)) × ((v : Val) → o ≡ some v → Says echo (K.write echo v) v)
  pub done_still : (s : Simple Val) (x : Input K.Order K.Rec) → T s.done → K.move s x ≡ still

module _ {n t : ℕ} {Val : Type 0} {same : Val → Val → Bool} {K : Kind Val} (A : KindLaws n t same K) (blank : ℕ → Val) where
  -- done exactly from n - t votes on
  pub record More (s : Simple Val) : Type 0 where
    pub why : T s.done → T (s.core.spoke vote)
    pub quorum : T s.done → (v : Val) × (n - t ≤ count (named_by same s.core vote v) n)
    pub due_end : (v : Val) → T (s.core.spoke vote) → n - t ≤ count (named_by same s.core vote v) n → T s.done

  pub more_next : (s : Simple Val) → More s → NotOverdue n t same s.core → (x : Input K.Order K.Rec) → More ((simple n t same K blank).next s x)
  unfolding pick
  more_next s g punctual x = go (K.move s x) refl
    where
      c : Core Val
      c = s.core

      or_false : (d : Bool) → T (d || false) → T d
      or_false true h = tt
      or_false false h = h

      here : (b : Bool) (v : Val) → T (given (pick b (some v) none)) → T b
      here true v h = tt
      here false v h = h

      is_given : (b : Bool) (v : Val) → T b → T (given (pick b (some v) none))
      is_given true v h = tt
      is_given false v h = h

      go : (m : Move Val) → K.move s x ≡ m → More (record { core = moved n t same c m; done = s.done || given (delivered_by n t same K c m) })
      go still e = record {
        why = λ d. g.why (or_false s.done d);
        quorum = λ d. g.quorum (or_false s.done d);
        due_end = λ v sp q. or_left s.done false (g.due_end v sp q);
      }
      go (acquire o) e = record {
        why = λ d. g.why (or_false s.done d);
        quorum = λ d. g.quorum (or_false s.done d);
        due_end = λ v sp q. or_left s.done false (g.due_end v sp q);
      }
      go (hear w i u) e = record {
        why = λ d. elim (or_cases s.done _ d) [ inl a ↦ or_left (c.spoke vote) _ (g.why a) | inr b ↦ left (c'.spoke vote) _ (here F u b) ];
        quorum = λ d. elim (or_cases s.done _ d) [ inl a ↦ absurd (live a) | inr b ↦ (u, quorum_why n t same c' u (right (c'.spoke vote) _ (here F u b))) ];
        due_end = λ v sp q. elim (truth (same u v)) [
          | inl h ↦ or_right s.done _ (is_given F u (both (c'.spoke vote) _ sp (quorum_is n t same c' u
              (subst (λ a. n - t ≤ count (named_by same c' vote a) n) (sym (A.same_eq u v h)) q))))
          | inr ne ↦ or_left s.done _ (older v ne q (truth (c.spoke vote)))
        ];
      }
        where
          c' : Core Val
          c' = moved n t same c (hear w i u)

          F : Bool
          F = full n t same K c' u

          live : T s.done → ⊥
          live d = let z : still ≡ hear w i u = sym (A.done_still s x d) ∙ e in off (cc)

          older : (v : Val) → T (not (same u v)) → n - t ≤ count (named_by same c' vote v) n → T (c.spoke vote) ⊎ T (not (c.spoke vote)) → T s.done
          older v ne q sp =
              let diff : u ≡ v → ⊥ = λ a. T_not (same u v) ne (subst (λ b. T (same u b)) a (A.same_refl u)) in
              let less = new_count n t same A.same_eq A.same_refl c w i u vote v diff in
              elim sp [ inl a ↦ g.due_end v a (omega arith) | inr b ↦ absurd (omega (arith, A.third, (punctual v b).1)) ]

  pub said_echo : (c : Core Val) (m : Move Val) (v : Val) → said n t same c m echo ≡ some v → m ≡ acquire (some v)
  said_echo c still v e = none_some v e
  said_echo c (acquire o) v e = ap acquire e
  said_echo c (hear w i u) v e = none_some v e

  pub said_vote : (c : Core Val) (m : Move Val) (v : Val) → said n t same c m vote ≡ some v → (w : Word) × (i : ℕ) × (m ≡ hear w i v)
  said_vote c still v e = none_some v e
  said_vote c (acquire o) v e = none_some v e
  said_vote c (hear w i u) v e = (w, i, ap (hear w i) (chosen (not (c.spoke vote) && due n t same (keep c w i u) u) u v e).1)

  pub put_says : (s : Simple Val) (x : Input K.Order K.Rec) (ρ : K.Rec) (w : Word) (v : Val)
      → written_by n t same K (said n t same s.core (K.move s x) echo) (said n t same s.core (K.move s x) vote) ≡ some ρ → A.Says w ρ v
      → said n t same s.core (K.move s x) w ≡ some v
  put_says s x ρ w v = go (said n t same s.core (K.move s x) echo) (said n t same s.core (K.move s x) vote) refl refl
    where
      is : (w₀ : Word) (u : Val) → said n t same s.core (K.move s x) w₀ ≡ some u → some (K.write w₀ u) ≡ some ρ → A.Says w ρ v
          → said n t same s.core (K.move s x) w ≡ some v
      is w₀ u e p y =
          let q : K.write w₀ u ≡ ρ = cc in
          let (ew, eu) = A.says_one w w₀ u v (subst (λ a. A.Says w a v) (sym q) y) in
          ap (said n t same s.core (K.move s x)) ew ∙ e ∙ ap some eu

      go : (o p : Option Val) → said n t same s.core (K.move s x) echo ≡ o → said n t same s.core (K.move s x) vote ≡ p → written_by n t same K o p ≡ some ρ
          → A.Says w ρ v → said n t same s.core (K.move s x) w ≡ some v
      go none none e f q y = off (cc)
      go none (some u) e f q y = is vote u f q y
      go (some u) p e f q y = is echo u e q y

  pub says_put : (s : Simple Val) (x : Input K.Order K.Rec) (w : Word) (v : Val) → said n t same s.core (K.move s x) w ≡ some v
      → (ρ : K.Rec) × (written_by n t same K (said n t same s.core (K.move s x) echo) (said n t same s.core (K.move s x) vote) ≡ some ρ) × A.Says w ρ v
  says_put s x echo v e =
      (K.write echo v, ap (λ o. written_by n t same K o (said n t same s.core (K.move s x) vote)) e, (A.acquire_why s x (some v) (said_echo s.core (K.move s x) v e)).1 v refl)
  says_put s x vote v e =
      let (w, i, m) = said_vote s.core (K.move s x) v e in
      (K.write vote v, quiet (K.move s x) m e, (A.hear_why s x w i v m).2)
    where
      quiet : {w : Word} {i : ℕ} (m : Move Val) → m ≡ hear w i v → said n t same s.core m vote ≡ some v
          → written_by n t same K (said n t same s.core m echo) (said n t same s.core m vote) ≡ some (K.write vote v)
      quiet still q e = none_some v e
      quiet (acquire o) q e = none_some v e
      quiet (hear w i u) q e = ap (written_by n t same K none) e

  unfoldable pub has_core : HasCore (simple n t same K blank) n t Val same
  has_core = record {
    third = A.third;
    same_eq = A.same_eq;
    same_refl = A.same_refl;
    Says = A.Says;
    core = λ s. s.core;
    move = λ s x. K.move s x;
    done = λ s. s.done;
    More = λ j s. More s;
    more_start = λ j. record { why = λ h. absurd h; quorum = λ h. absurd h; due_end = λ v h. absurd h };
    more_next = λ {j} {s} g punctual x. more_next s g punctual x;
    core_start = λ j w h. h;
    core_empty = λ j w i h. h;
    core_next = λ {j} {s} g x. refl;
    hear_why = λ {j} {s} g x w i v e. (let (a, b, c) = A.hear_why s x w i v e in (a, b));
    hear_in = λ {j} {s} g i ρ w v b y nd ns. A.hear_in s i ρ w v b y nd ns;
    acquire_why = λ {j} {s} g x o e. (A.acquire_why s x o e).0;
    put_says = λ {j} {s} g x k ρ w v e y. put_says s x ρ w v e y;
    says_put = λ {j} {s} g x w v e k b. says_put s x w v e;
    done_stays = λ {j} {s} g x d. or_left s.done _ d;
    done_voted = λ {j} {s} g d. g.why d;
  }

  unfoldable pub ends : Ends (simple n t same K blank) n t Val (reading has_core) (echo_vote has_core)
  unfolding has_core
  ends = record {
    Outcome = λ s v d. d ≡ v;
    done_start = λ j h. h;
    done_why = λ {j} {s} g x h. done_why s x h;
    gives_why = λ {j} {s} g x d e. gives_why s.core (K.move s x) d e;
    gives_due = λ {j} {s} (g, punctual) v d sp q e. g.due_end v sp q;
  }
    where
      some_of : (o : Option Val) → T (given o) → (d : Val) × (o ≡ some d)
      some_of none h = absurd h
      some_of (some d) h = (d, refl)

      done_why : (s : Simple Val) (x : Input K.Order K.Rec) → T (s.done || given (delivered_by n t same K s.core (K.move s x)))
          → T s.done ⊎ ((d : Val) × (delivered_by n t same K s.core (K.move s x) ≡ some d))
      done_why s x h = elim (or_cases s.done _ h) [ inl a ↦ inl a | inr b ↦ inr (some_of (delivered_by n t same K s.core (K.move s x)) b) ]

      gives_why : (c : Core Val) (m : Move Val) (d : Val) → delivered_by n t same K c m ≡ some d → (v : Val) × (n - t ≤ count (named_by same (moved n t same c m) vote v) n) × (d ≡ v)
      gives_why c still d e = none_some d e
      gives_why c (acquire o) d e = none_some d e
      gives_why c (hear w i u) d e =
          let c' : Core Val = moved n t same c (hear w i u) in
          let (f, q) = chosen (full n t same K c' u) u d e in
          (u, quorum_why n t same c' u (right (c'.spoke vote) _ f), sym q)
