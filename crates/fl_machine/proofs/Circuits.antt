-- Fragments whose circuit is set to another.
use Rattle.std.proofs.Common.{◌≡◌, ℕ, ◌+◌, ◌-◌, ◌*◌, ◌^◌, ◌<◌, ◌==◌, Bool, true, false, List, [], ◌∷◌, map, refl, ◌∙◌, ap, arith}
use Rattle.std.specs.List.{range_with_len}
use Rattle.fl_base.specs.declared.fragment.Frag.{Frag}
use Rattle.fl_base.specs.Control.{control_word, circuit_of, with_circuit, body, bare}
use Rattle.fl_layout.specs.Places.{count}
use Rattle.fl_wire.specs.Payload.{payload_of, frag_on, word}
use Rattle.fl_machine.specs.Laws.{SetsCircuits, KeepsMeanings}

set_word : (first : Bool) (msg circuit other : ℕ) → msg < 2 ^ 16 → circuit < 2 ^ 16
    → control_word first msg circuit - 2 ^ 32 * circuit_of (control_word first msg circuit) + 2 ^ 32 * other ≡ control_word first msg other
set_word true msg circuit other small low = omega (arith, small, low)
set_word false msg circuit other small low = omega (arith, small, low)

set_one : (circuit other msg : ℕ) (bytes : List ℕ) (k : ℕ) → msg < 2 ^ 16 → circuit < 2 ^ 16
    → with_circuit other (frag_on circuit msg bytes k) ≡ frag_on other msg bytes k
set_one circuit other msg bytes k small low =
    let control = set_word (k == 0) msg circuit other small low in
    λ i. record { words = map (word bytes) (range_with_len (7 * k) 7); control = control i }

set_all : (circuit other msg : ℕ) (bytes ks : List ℕ) → msg < 2 ^ 16 → circuit < 2 ^ 16
    → map (with_circuit other) (map (frag_on circuit msg bytes) ks) ≡ map (frag_on other msg bytes) ks
set_all circuit other msg bytes [] small low = refl
set_all circuit other msg bytes (k ∷ ks) small low =
    ap (λ (f : Frag). f ∷ map (with_circuit other) (map (frag_on circuit msg bytes) ks)) (set_one circuit other msg bytes k small low)
    ∙ ap (λ (fs : List Frag). frag_on other msg bytes k ∷ fs) (set_all circuit other msg bytes ks small low)

pub sets_circuits : SetsCircuits
sets_circuits circuit other plan i c low small = set_all circuit other c.msg (payload_of plan i c) (range_with_len 0 (count plan i c)) small low

bare_word : (w other : ℕ) → other < 2 ^ 16
    → body (w - 2 ^ 32 * circuit_of w + 2 ^ 32 * other) ≡ body w - 2 ^ 32 * circuit_of (body w) + 2 ^ 32 * other
bare_word w other fits = omega (arith, fits)

bare_set : (other : ℕ) (f : Frag) → other < 2 ^ 16 → bare (with_circuit other f) ≡ with_circuit other (bare f)
bare_set other f fits =
    let control = bare_word f.control other fits in
    λ i. record { words = f.words; control = control i }

bare_all_set : (other : ℕ) (frags : List Frag) → other < 2 ^ 16 → map bare (map (with_circuit other) frags) ≡ map (with_circuit other) (map bare frags)
bare_all_set other [] fits = refl
bare_all_set other (f ∷ frags) fits =
    ap (λ (g : Frag). g ∷ map bare (map (with_circuit other) frags)) (bare_set other f fits)
    ∙ ap (λ (gs : List Frag). with_circuit other (bare f) ∷ gs) (bare_all_set other frags fits)

pub keeps_meanings : KeepsMeanings
keeps_meanings circuit other plan i c frags low fits small means =
    bare_all_set other frags fits ∙ ap (map (with_circuit other)) means ∙ sets_circuits circuit other plan i c low small
