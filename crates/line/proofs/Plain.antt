-- A broadcast whose result is that of the value voted for: its promise has no hash clause.
use Prim.Native.Nat.{ℕ, ◌-◌, ◌≤◌}
use mathlib.Core.Bool.{Bool}
use mathlib.Core.Path.{◌≡◌, refl, sym, ◌∙◌, ap}
use mathlib.Core.Logic.{inl, ◌↔◌}
use lib.Dec.{T}
use Rattle.line.specs.Boards.{count, Board, Keepers}
use Rattle.line.specs.Run.{Machine, Run, state, Delivered, Fair}
use Rattle.line.specs.Promise.{Mail, Promise}
use Rattle.line.specs.Core.{vote}
use Rattle.line.proofs.EchoVote.{Reading, EchoVote, Mute}
use Rattle.line.proofs.Quorums.{quorums_agree, quorum_voter}
use Rattle.line.proofs.Senders.{Sends, votes_valid}
use Rattle.line.proofs.Results.{Ends, delivered_why, total}

module _ {M : Machine} {n t : ℕ} {Val : Type 0} {R : Reading M Val} {E : EchoVote M n t Val R} (F : Ends M n t Val R E)
    -- the result is that of the value voted for
    (result : Val → M.Result) (plain : (s : M.State) (v : Val) (d : M.Result) → F.Outcome s v d ↔ (d ≡ result v)) where
  delivered : {j : ℕ} {d : M.Result} {r : Run M} → Delivered M j d r
      → (v : Val) × (n - t ≤ count (R.heard vote (state M r j) v) n) × (d ≡ result v)
  delivered {j} = delivered_why F (λ r v d. d ≡ result v) j (λ r x v d e o. (plain (M.next (state M r j) x) v d).0 o) (λ r k x v d h. h)

  -- the promise, with nothing else that may have happened
  pub promise : {S : ℕ} (D : Sends M n t Val R E S) {keeps : ℕ → Bool} → Keepers n t keeps → (mail : ℕ → M.Rec) → Mute R (Mail n S mail)
      → (v : Val) → ((j : ℕ) → Board n j → D.Fit j (mail j) v)
      → {r : Run M} → Fair M keeps (Mail n S mail) r → Promise M keeps S (Mail n S mail) (result v) ⊥ r
  promise {S} D {keeps} K mail mute v fit {r} f = record {
    agree = λ i j d e ki kj p q. inl (agree i j d e ki kj p q);
    valid = λ i d k_s ki p. inl (valid i d k_s ki p);
    total = λ o. total F D K mail mute v fit f o (λ u j kj a. (result u, (plain (state M r j) u (result u)).1 refl));
  }
    where
      agree : (i j : ℕ) (d e : M.Result) → T (keeps i) → T (keeps j) → Delivered M i d r → Delivered M j e r → d ≡ e
      agree i j d e ki kj p q =
          let (u, g, a) = delivered p in
          let (w, h, b) = delivered q in
          a ∙ ap result (quorums_agree E K mute f u w i j ki kj g h) ∙ sym b

      valid : (i : ℕ) (d : M.Result) → T (keeps S) → T (keeps i) → Delivered M i d r → d ≡ result v
      valid i d k_s ki p =
          let (u, g, a) = delivered p in
          let (j, kj, q) = quorum_voter E K mute f u i ki g in
          a ∙ ap result (votes_valid D K mail mute k_s v fit f kj q)
