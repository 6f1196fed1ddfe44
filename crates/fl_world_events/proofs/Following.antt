-- An end gets the rules of another, where the two are of one interface.
use Rattle.std.proofs.Common.{◌≡◌, ◌≢◌, ◌↔◌, refl, sym, ap, ◌∙◌, subst, ℕ, zero, suc, Bool, true, false, IsTrue, List, [], ◌∷◌, slice_get, slice_set, Some, inl, inr}
use Rattle.std.proofs.lemmas.Option.{same_Some}
use Rattle.fl_endpoint.specs.View.{TheEnd, interface_in}
use Rattle.fl_endpoint.specs.Events.{Exchanges}
use Rattle.fl_core.specs.BoardView.{TheEndAtChannel, TheBoard}
use Rattle.fl_core.specs.BoardEvents.{ChangesEnd, Holds}
use Rattle.fl_core.specs.Ends.{OnBoard}
use Rattle.fl_core.specs.View.{TheCore}
use Rattle.fl_world_events.specs.Following.{TakesRulesOf}

-- ---- lists

pub set_same : {X : Type 0} (xs : List X) (i : ℕ) (x : X) → slice_get xs i ≡ Some x → slice_set xs i x ≡ xs
set_same [] i x e = refl
set_same (z ∷ xs) zero x e = let same : z ≡ x = same_Some z x e in ap (λ y. y ∷ xs) (sym same)
set_same (z ∷ xs) (suc i) x e = ap (λ ys. z ∷ ys) (set_same xs i x e)

-- ---- an end gets the rules of another

like_from : (b : Bool) (P : Type 0) → (IsTrue b ↔ P) → b ≡ true → P
like_from true P e h = e.0 refl
like_from false P e h = absurd (cc)

unlike_from : (b : Bool) (P : Type 0) → (IsTrue b ↔ P) → b ≡ false → P → ⊥
unlike_from true P e h p = absurd (cc)
unlike_from false P e h p = let no : false ≡ true = e.1 p in absurd (cc)

pub holds_like : (k : TheCore) (b : TheBoard) → b ≡ k.board → (e : ℕ) (t o : TheEnd) → Holds b e (λ s. t ≡ s.end) → (x : Bool) → (IsTrue x ↔ interface_in t ≡ interface_in o)
    → x ≡ true → Holds k.board e (λ s. interface_in s.end ≡ interface_in o)
holds_like k b same e t o h x exact is =
    subst (λ (y : TheBoard). Holds y e (λ s. interface_in s.end ≡ interface_in o)) same
    (h.0, h.1, subst (λ (y : TheEnd). interface_in y ≡ interface_in o) h.2 (like_from x (interface_in t ≡ interface_in o) exact is))

pub holds_other : (k : TheCore) (b : TheBoard) → b ≡ k.board → (e : ℕ) (t o : TheEnd) → Holds b e (λ s. t ≡ s.end) → (x : Bool) → (IsTrue x ↔ interface_in t ≡ interface_in o)
    → x ≡ false → Holds k.board e (λ s. interface_in s.end ≢ interface_in o)
holds_other k b same e t o h x exact is =
    subst (λ (y : TheBoard). Holds y e (λ s. interface_in s.end ≢ interface_in o)) same
    (h.0, h.1, subst (λ (y : TheEnd). interface_in y ≢ interface_in o) h.2 (unlike_from x (interface_in t ≡ interface_in o) exact is))

pub exchanged : (k k2 : TheCore) (place : ℕ) (o p : TheEnd) → Holds k.board place (λ s. interface_in s.end ≡ interface_in o)
    → OnBoard k (λ b c. ChangesEnd b place (λ s t. Exchanges s o t p) c) k2 → TakesRulesOf o place k k2
exchanged k k2 place o p like h =
    let seat : like.0 ≡ h.event.seat = same_Some like.0 h.event.seat (sym like.1 ∙ h.event.seat_is) in
    record {
      event = record {
        seat = h.event.seat;
        seat_is = h.event.seat_is;
        end = h.event.end;
        event = inl (subst (λ (x : TheEndAtChannel). interface_in x.end ≡ interface_in o) seat like.2, h.event.event.0);
        board = h.event.board;
      };
      rest = h.rest;
    }

pub not_exchanged : (k : TheCore) (place : ℕ) (o : TheEnd) → Holds k.board place (λ s. interface_in s.end ≢ interface_in o) → TakesRulesOf o place k k
not_exchanged k place o h = record {
  event = record {
    seat = h.0;
    seat_is = h.1;
    end = h.0.end;
    event = inr (h.2, refl);
    board = ap (λ (xs : List TheEndAtChannel). record { dispatchers = k.board.dispatchers; seats = xs }) (sym (set_same k.board.seats place h.0 h.1));
  };
  rest = refl;
}
