-- Of a route that may be asked for, the service's core is there.
use Rattle.std.proofs.Common.{◌≡◌, refl, sym, ap, ◌∙◌, ℕ, zero, suc, ◌<◌, ◌-◌, ◌&&◌, if◌then◌else◌, nat_lt, List, [], ◌∷◌, length, slice_get, Option, Some, None, Bool, true, false, arith}
use Rattle.std.specs.List.{list_all}
use Rattle.std.proofs.lemmas.Bool.Decides.{nat_tests}
use Rattle.fl_base.specs.declared.identity.CoreId.{CoreId}
use Rattle.fl_base.specs.Given.{given}
use Rattle.fl_hop.specs.Table.{TheCircuits}
use Rattle.fl_monitor.specs.Routing.{is_core, is_route, begins_at, ends_at_core, all_differ}
use Rattle.fl_monitor.specs.Monitors.{first_link}

pub left_true : (a b : Bool) → (a && b) ≡ true → a ≡ true
left_true true b h = refl
left_true false b h = absurd (cc)

pub right_true : (a b : Bool) → (a && b) ≡ true → b ≡ true
right_true true b h = h
right_true false b h = absurd (cc)

each_is : {X : Type 0} (p : X → Bool) (xs : List X) (n : ℕ) (x : X) → list_all p xs ≡ true → slice_get xs n ≡ Some x → p x ≡ true
each_is p [] n x all at = absurd (cc)
each_is p (y ∷ xs) zero x all at = let same : y ≡ x = cc in ap p (sym same) ∙ left_true (p y) (list_all p xs) all
each_is p (y ∷ xs) (suc n) x all at = each_is p xs n x (right_true (p y) (list_all p xs) all) at

ends_by : (path : List CoreId) (n server cores : ℕ) (o : Option CoreId) → slice_get path n ≡ o → given o false (is_core server) ≡ true
    → list_all (λ (c : CoreId). nat_lt c.0 cores) path ≡ true → server < cores
ends_by path n server cores None at is all = absurd (cc)
ends_by path n server cores (Some c) at is all =
    let below = each_is (λ (x : CoreId). nat_lt x.0 cores) path n c all at in
    grind (arith, nat_tests, is, below)

route_there : (path : List CoreId) (client server cores : ℕ) → is_route path client server cores ≡ true → server < cores
route_there path client server cores is =
    let a = left_true _ (all_differ path) is in
    let ends = right_true _ (ends_at_core path server) a in
    let b = left_true _ (ends_at_core path server) a in
    let c = left_true _ (begins_at path client) b in
    let all = right_true _ (list_all (λ (x : CoreId). nat_lt x.0 cores) path) c in
    ends_by path (length path - 1) server cores (slice_get path (length path - 1)) refl ends all

by_test : (b : Bool) (o : Option ℕ) (l : ℕ) → (if b then o else None) ≡ Some l → b ≡ true
by_test true o l h = refl
by_test false o l h = absurd (cc)

pub there : (t : TheCircuits) (path : List CoreId) (server cores l : ℕ) → first_link t path server cores ≡ Some l → server < cores
there t path server cores l h = route_there path t.core server cores (by_test (is_route path t.core server cores) _ l h)
