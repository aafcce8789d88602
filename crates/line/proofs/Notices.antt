-- The broadcast of plain values keeps the promise, with no hash clause and no void.
use Prim.Native.Nat.{ℕ, ◌*◌, ◌<◌}
use mathlib.Core.Bool.{Bool, true, false, not, ◌&&◌}
use mathlib.Core.Path.{◌≡◌, refl, subst, sym, ◌∙◌, ap}
use mathlib.Core.Logic.{◌⊎◌, inl, inr}
use mathlib.Core.Option.{Option, some, none}
use lib.Dec.{T, T_not, eqb, eqb→eq, eqb_refl}
use Rattle.octets.specs.Bytes.{pick}
use Rattle.line.specs.Boards.{Board, known, Keepers}
use Rattle.line.specs.Run.{Machine, Input, hand, tell, Run, Fair}
use Rattle.line.specs.Promise.{Mail, Promise}
use Rattle.line.specs.Core.{Word, echo, vote, Move, still, acquire, hear, moved, said}
use Rattle.line.specs.Plain.{Simple, simple, written_by}
use Rattle.line.specs.Notice.{Note, send, say, Form, first_send, first_word, takes, answers, notice}
use Rattle.line.proofs.Tests.{both, left, right, truth, or_left, off, pick_true}
use Rattle.line.proofs.Counts.{is_known}
use Rattle.line.proofs.EchoVote.{Mute}
use Rattle.line.proofs.Senders.{Sends}
use Rattle.line.proofs.Cores.{reading, echo_vote}
use Rattle.line.proofs.Simples.{KindLaws, has_core, ends, said_echo}
use Rattle.line.proofs.Plain.{promise}

-- what the records' form must meet
pub record FormLaws (n t : ℕ) {Val : Type 0} (same : Val → Val → Bool) (B : Form n Val) : Type 1 where
  pub third : 3 * t < n
  pub sender : Board n B.S
  pub same_eq : (u v : Val) → T (same u v) → u ≡ v
  pub same_refl : (v : Val) → T (same v v)
  pub reads : (a : Note Val) → (B.read (B.write a) ≡ none) ⊎ (B.read (B.write a) ≡ some a)
  pub echo_back : (b : B.Bytes) (v : Val) → B.read b ≡ some (send v) → B.read (B.write (say echo v)) ≡ some (say echo v)
  pub vote_back : (b : B.Bytes) (w : Word) (v : Val) → B.read b ≡ some (say w v) → B.read (B.write (say vote v)) ≡ some (say vote v)

module _ {n t : ℕ} {Val : Type 0} {same : Val → Val → Bool} {B : Form n Val} (A : FormLaws n t same B) where
  -- what each move comes from
  data Why (s : Simple Val) (x : Input ⊥ B.Bytes) : Move Val → Type 0 where
    idle : Why s x still
    sent : (i : ℕ) (b : B.Bytes) (v : Val) → x ≡ hand i b → B.read b ≡ some (send v) → T (first_send B s i) → Why s x (acquire (some v))
    spoken : (i : ℕ) (b : B.Bytes) (w : Word) (v : Val) → x ≡ hand i b → B.read b ≡ some (say w v) → T (first_word B s i w) → Why s x (hear w i v)

  why : (s : Simple Val) (x : Input ⊥ B.Bytes) → Why s x (answers B s x)
  unfolding pick
  why s (tell e) = absurd e
  why s (hand i b) = go (B.read b) refl
    where
      go : (o : Option (Note Val)) → B.read b ≡ o → Why s (hand i b) (takes B s i o)
      go none e = idle
      go (some (send v)) e = at (first_send B s i) refl
        where
          at : (c : Bool) → first_send B s i ≡ c → Why s (hand i b) (pick c (acquire (some v)) still)
          at true q = sent i b v refl e (subst T (sym q) tt)
          at false q = idle
      go (some (say w v)) e = at (first_word B s i w) refl
        where
          at : (c : Bool) → first_word B s i w ≡ c → Why s (hand i b) (pick c (hear w i v) still)
          at true q = spoken i b w v refl e (subst T (sym q) tt)
          at false q = idle

  -- a word that is heard
  heard_why : {s : Simple Val} {x : Input ⊥ B.Bytes} {w : Word} {i : ℕ} {v : Val} → Why s x (hear w i v)
      → (b : B.Bytes) × (x ≡ hand i b) × (B.read b ≡ some (say w v)) × T (first_word B s i w)
  heard_why (spoken i b w v ex e h) = (b, ex, e, h)

  -- a send that is taken
  taken_why : {s : Simple Val} {x : Input ⊥ B.Bytes} {o : Option Val} → Why s x (acquire o)
      → (i : ℕ) × (b : B.Bytes) × (v : Val) × (o ≡ some v) × (x ≡ hand i b) × (B.read b ≡ some (send v)) × T (first_send B s i)
  taken_why (sent i b v ex e h) = (i, b, v, refl, ex, e, h)

  alive : {s : Simple Val} {x : Input ⊥ B.Bytes} {m : Move Val} → T s.done → Why s x m → m ≡ still
  alive d idle = refl
  alive {s} d (sent i b v ex e h) = absurd (T_not s.done (left (not s.done) _ (right (eqb i B.S) _ (right (known n i) _ h))) d)
  alive {s} d (spoken i b w v ex e h) = absurd (T_not s.done (left (not s.done) _ (right (known n i) _ h)) d)

  unspoken : (s : Simple Val) (i : ℕ) → T (first_send B s i) → T (not (s.core.spoke echo))
  unspoken s i h = right (not s.done) _ (right (eqb i B.S) _ (right (known n i) _ h))

  from_sender : (s : Simple Val) (i : ℕ) → T (first_send B s i) → i ≡ B.S
  from_sender s i h = eqb→eq i B.S (left (eqb i B.S) _ (right (known n i) _ h))

  abbrev Says : Word → B.Bytes → Val → Type 0
  Says w b v = B.read b ≡ some (say w v)

  says_one : (w w' : Word) (u v : Val) → B.read (B.write (say w' u)) ≡ some (say w v) → (w ≡ w') × (u ≡ v)
  says_one w w' u v h = go (A.reads (say w' u))
    where
      go : (B.read (B.write (say w' u)) ≡ none) ⊎ (B.read (B.write (say w' u)) ≡ some (say w' u)) → (w ≡ w') × (u ≡ v)
      go (inl e) = off (cc)
      go (inr e) = ((cc), (cc))

  laws : KindLaws n t same (notice B)
  laws = record {
    third = A.third;
    same_eq = A.same_eq;
    same_refl = A.same_refl;
    Says = Says;
    says_one = says_one;
    hear_why = λ s x w i v e. (
        let (b, ex, r, h) = heard_why (subst (Why s x) e (why s x)) in
        ((b, ex, r), right (not s.done) (not (s.core.set w i)) (right (known n i) _ h), A.vote_back b w v r));
    hear_in = λ s i b w v bd r nd ns. (ap (takes B s i) r ∙ pick_true (first_word B s i w) (hear w i v) still
        (both (known n i) (not s.done && not (s.core.set w i)) (is_known bd) (both (not s.done) (not (s.core.set w i)) nd ns)));
    acquire_why = λ s x o e. acquire_why s x o e;
    done_still = λ s x d. alive d (why s x);
  }
    where
      acquire_why : (s : Simple Val) (x : Input ⊥ B.Bytes) (o : Option Val) → answers B s x ≡ acquire o
          → T (not (s.core.spoke echo)) × ((v : Val) → o ≡ some v → Says echo (B.write (say echo v)) v)
      acquire_why s x o e =
          let (i, b, v, eo, ex, r, h) = taken_why (subst (Why s x) e (why s x)) in
          (unspoken s i h, λ u q. (let uv : v ≡ u = cc in subst (λ a. Says echo (B.write (say echo a)) a) uv (A.echo_back b v r)))

  module _ (blank : ℕ → Val) where
    abbrev line : Machine
    line = simple n t same (notice B) blank

    sends : Sends line n t Val (reading (has_core laws blank)) (echo_vote (has_core laws blank)) B.S
    unfolding has_core
    sends = record {
      Send = λ b. ((v : Val) × (B.read b ≡ some (send v)));
      Fit = λ j b v. (B.read b ≡ some (send v));
      late = λ s. s.done;
      fit_one = λ j b v u e f. (cc);
      put_no_send = λ {j} {s} g x k b e (v, r). no_send (said n t same s.core (answers B s x) echo) (said n t same s.core (answers B s x) vote) b v e r;
      echo_why = λ {j} {s} g x v e. echo_why s x v e;
      send_in = λ {j} {s} g b v r. send_in s b v r;
      acquired_why = λ {j} {s} g x h. acquired_why s x h;
      late_stays = λ {j} {s} g x d. or_left s.done _ d;
      late_why = λ {j} {s} (g, punctual) d. g.quorum d;
    }
      where
        unread : (a : Note Val) (b : B.Bytes) (v : Val) → (a ≡ send v → ⊥) → some (B.write a) ≡ some b → B.read b ≡ some (send v) → ⊥
        unread a b v ne q r = go (A.reads a)
          where
            w : B.write a ≡ b
            w = cc

            go : (B.read (B.write a) ≡ none) ⊎ (B.read (B.write a) ≡ some a) → ⊥
            go (inl e) = off (cc (ap B.read w))
            go (inr e) = ne (cc (ap B.read w))

        word : (w : Word) (u v : Val) → say w u ≡ send v → ⊥
        word w u v e = off (cc)

        no_send : (o p : Option Val) (b : B.Bytes) (v : Val) → written_by n t same (notice B) o p ≡ some b → B.read b ≡ some (send v) → ⊥
        no_send none none b v e r = off (cc)
        no_send none (some u) b v e r = unread (say vote u) b v (word vote u v) e r
        no_send (some u) p b v e r = unread (say echo u) b v (word echo u v) e r

        echo_why : (s : Simple Val) (x : Input ⊥ B.Bytes) (v : Val) → said n t same s.core (answers B s x) echo ≡ some v
            → (b : B.Bytes) × (x ≡ hand B.S b) × ((u : Val) × (B.read b ≡ some (send u))) × (B.read b ≡ some (send v))
        echo_why s x v e =
            let (i, b, u, eo, ex, r, h) = taken_why (subst (Why s x) (said_echo laws blank s.core (answers B s x) v e) (why s x)) in
            let uv : u ≡ v = cc in
            (b, ex ∙ ap (λ a. hand a b) (from_sender s i h), (u, r), r ∙ ap (λ a. some (send a)) uv)

        send_in : (s : Simple Val) (b : B.Bytes) (v : Val) → B.read b ≡ some (send v)
            → T (line.next s (hand B.S b)).done ⊎ T ((line.next s (hand B.S b)).core.spoke echo)
        send_in s b v r = elim (truth s.done) [
          | inl d ↦ inl (or_left s.done _ d)
          | inr nd ↦ inr (elim (truth (s.core.spoke echo)) [ inl a ↦ stays a (answers B s (hand B.S b)) | inr na ↦ subst (λ m. T ((moved n t same s.core m).spoke echo)) (sym (move nd na)) tt ])
        ]
          where
            stays : T (s.core.spoke echo) → (m : Move Val) → T ((moved n t same s.core m).spoke echo)
            stays a still = a
            stays a (acquire o) = tt
            stays a (hear w i u) = a

            move : T (not s.done) → T (not (s.core.spoke echo)) → answers B s (hand B.S b) ≡ acquire (some v)
            move nd na = ap (takes B s B.S) r ∙ pick_true (first_send B s B.S) (acquire (some v)) still
                (both (known n B.S) _ (is_known A.sender) (both (eqb B.S B.S) (not s.done && not (s.core.spoke echo)) (eqb_refl B.S) (both (not s.done) (not (s.core.spoke echo)) nd na)))

        Taken : Simple Val → Input ⊥ B.Bytes → Move Val → Type 0
        Taken s x m = (b : B.Bytes) × (x ≡ hand B.S b) × ((u : Val) × (B.read b ≡ some (send u)))
            × ((v : Val) → B.read b ≡ some (send v) → said n t same s.core m echo ≡ some v)

        acquired_why : (s : Simple Val) (x : Input ⊥ B.Bytes) → T ((line.next s x).core.spoke echo)
            → T (s.core.spoke echo) ⊎ Taken s x (answers B s x)
        acquired_why s x = go (answers B s x) (why s x)
          where
            go : (m : Move Val) → Why s x m → T ((moved n t same s.core m).spoke echo)
                → T (s.core.spoke echo) ⊎ Taken s x m
            go m idle h = inl h
            go m (spoken i b w v ex e f) h = inl h
            go m (sent i b v ex e f) h = inr (b, ex ∙ ap (λ a. hand a b) (from_sender s i f), (v, e), λ u q. (cc))

    -- the promise of request 3: v is the sender's notice, which its record is read as
    pub kept : {keeps : ℕ → Bool} → Keepers n t keeps → (v : Val) → B.read (B.write (send v)) ≡ some (send v)
        → {r : Run line} → Fair line keeps (Mail n B.S (λ j. B.write (send v))) r → Promise line keeps B.S (Mail n B.S (λ j. B.write (send v))) v ⊥ r
    unfolding has_core ends sends laws
    kept K v fits f = promise (ends laws blank) (λ u. u) (λ s u d. (λ h. h, λ h. h)) sends K (λ j. B.write (send v)) mute v (λ j b. fits) f
      where
        mute : Mute (reading (has_core laws blank)) (Mail n B.S (λ j. B.write (send v)))
        mute w i j b u (ei, bd, e) y = let y' : B.read b ≡ some (say w u) = y in off (cc (ap B.read e))
