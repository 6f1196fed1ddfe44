-- Whether an entry of a binding stands: what is kept in the slab, and what the numbers show.
use Rattle.std.proofs.Common.{◌≡◌, ◌≢◌, refl, sym, ap, ◌∙◌, ℕ, suc, ◌==◌, ◌⊎◌, inl, inr, Bool, true, false, ◌||◌, List, [], ◌∷◌, map, slice_get, Option, Some, None, option_map, Contains, arith}
use Rattle.std.specs.List.{list_any}
use Rattle.std.proofs.lemmas.Option.{slice_get-map, slice_get-get_or, get_or_from_slice_get}
use Rattle.std.proofs.lemmas.Bool.Decides.{nat_tests}
use Rattle.slab.specs.Slab.{Slab, get, entries}
use Rattle.slab.proofs.SlabLemmas.{Contains-entries}
use Rattle.fl_hop.specs.declared.entry.Hop.{Hop}
use Rattle.fl_hop.specs.declared.entry.Entry.{Entry}
use Rattle.fl_hop.specs.declared.entry.Cell.{Cell}
use Rattle.fl_hop.specs.declared.entry.Cell.TheVariants.{Free, ClientSide, ServerSide}
use Rattle.fl_hop.specs.declared.links.LinkState.{LinkState}
use Rattle.fl_hop.specs.Table.{is_of, stands}
use Rattle.fl_hop.specs.Slots.{table_of, shown, from_client, from_server, SlotsKept}
use Rattle.fl_hop.proofs.Lists.{within}
use Rattle.fl_hop.proofs.Opening.{seen, fails}

or_cases : (a b : Bool) → (a || b) ≡ true → (a ≡ true) ⊎ (b ≡ true)
or_cases true b e = inl refl
or_cases false b e = inr e

any_there : {X : Type 0} (p : X → Bool) (xs : List X) → list_any p xs ≡ true → (i : ℕ) × (x : X) × (slice_get xs i ≡ Some x) × (p x ≡ true)
any_there p [] e = cc
any_there p (x ∷ xs) e =
    elim (or_cases (p x) (list_any p xs) e) [
      | inl here ↦ (0, x, refl, here)
      | inr later ↦ let (i, y, at, passes) = any_there p xs later in (suc i, y, at, passes)
    ]

true_or : (b : Bool) → (b ≡ false → ⊥) → b ≡ true
true_or true n = refl
true_or false n = absurd (n refl)

any_so : {X : Type 0} (p : X → Bool) (xs : List X) (i : ℕ) (x : X) → slice_get xs i ≡ Some x → p x ≡ true → list_any p xs ≡ true
any_so p xs i x at passes = true_or (list_any p xs) (λ none. let no = fails p xs i x none at in cc (no, passes))

same_if : (a b : Bool) → (a ≡ true → b ≡ true) → (b ≡ true → a ≡ true) → a ≡ b
same_if true b f g = sym (f refl)
same_if false true f g = g refl
same_if false false f g = refl

-- whether an entry of the slab is of a binding
abbrev of_binding : ℕ → ℕ × Entry → Bool
of_binding binding e = e.1.binding == binding

module _ (core : ℕ) (links : List LinkState) (cells : List Cell) (s : Slab Entry) (k : SlotsKept core links cells s) (binding : ℕ) where
  kept_shown : list_any (of_binding binding) (entries s) ≡ true → stands (table_of core links cells s) binding ≡ true
  kept_shown h =
      let (i, e, at, passes) = any_there (of_binding binding) (entries s) h in
      let there : Contains (entries s) (e.0, e.1) = (i, within (entries s) i e at, get_or_from_slice_get (entries s) i e e at) in
      let x = seen core links cells s k e.0 e.1 ((Contains-entries s e.0 e.1).0 there) in
      let same : e.1.binding ≡ binding = grind (arith, nat_tests, passes) in
      let b = x.binding in
      let yes : is_of binding (Some x.hop) ≡ true = grind (arith, nat_tests, b, same) in
      any_so (is_of binding) (map (shown s) cells) x.place (Some x.hop) x.there yes

  entry_kept : (key : ℕ) (e : Entry) → get s key ≡ Some e → e.binding ≡ binding → list_any (of_binding binding) (entries s) ≡ true
  entry_kept key e at same =
      let (i, inside, is) = (Contains-entries s key e).1 at in
      let some : ℕ × Entry → Option (ℕ × Entry) = λ x. Some x in
      let yes : of_binding binding (key, e) ≡ true = grind (arith, nat_tests, same) in
      any_so (of_binding binding) (entries s) i (key, e) (slice_get-get_or (entries s) i (key, e) inside ∙ ap some is) yes

  cell_kept : (i : ℕ) (x : Cell) (hop : Hop) → slice_get cells i ≡ Some x → shown s x ≡ Some hop → hop.binding ≡ binding → list_any (of_binding binding) (entries s) ≡ true
  cell_kept i Free hop at e same = absurd (cc)
  cell_kept i (ClientSide key) hop at e same =
      let f = k.client i key at in
      let some : Some (from_client f.entry) ≡ Some hop = sym (ap (option_map from_client) f.kept) ∙ e in
      let is : from_client f.entry ≡ hop = cc in
      let b : Hop → ℕ = λ h. h.binding in
      entry_kept key f.entry f.kept (ap b is ∙ same)
  cell_kept i (ServerSide key) hop at e same =
      let f = k.server i key at in
      let some : Some (from_server f.entry) ≡ Some hop = sym (ap (option_map from_server) f.kept) ∙ e in
      let is : from_server f.entry ≡ hop = cc in
      let b : Hop → ℕ = λ h. h.binding in
      entry_kept key f.entry f.kept (ap b is ∙ same)

  hop_step : (i : ℕ) (o : Option Hop) (c : Option Cell) → slice_get cells i ≡ c → option_map (shown s) c ≡ Some o → is_of binding o ≡ true → list_any (of_binding binding) (entries s) ≡ true
  hop_step i None c at e h = absurd (cc)
  hop_step i (Some hop) None at e h = absurd (cc)
  hop_step i (Some hop) (Some x) at e h =
      let is : shown s x ≡ Some hop = cc in
      let same : hop.binding ≡ binding = grind (arith, nat_tests, h) in
      cell_kept i x hop at is same

  shown_kept : stands (table_of core links cells s) binding ≡ true → list_any (of_binding binding) (entries s) ≡ true
  shown_kept h =
      let (i, o, at, passes) = any_there (is_of binding) (map (shown s) cells) h in
      hop_step i o (slice_get cells i) refl (sym (slice_get-map (shown s) cells i) ∙ at) passes

  pub kept_is : list_any (of_binding binding) (entries s) ≡ stands (table_of core links cells s) binding
  kept_is = same_if (list_any (of_binding binding) (entries s)) (stands (table_of core links cells s) binding) kept_shown shown_kept

pub keeps_looking : (binding : ℕ) (e : ℕ × Entry) (rest : List (ℕ × Entry)) → e.1.binding ≢ binding → list_any (of_binding binding) (e ∷ rest) ≡ list_any (of_binding binding) rest
keeps_looking binding e rest other =
    let no : of_binding binding e ≡ false = grind (arith, nat_tests, other) in
    ap (λ b. b || list_any (of_binding binding) rest) no

pub found_now : (binding : ℕ) (e : ℕ × Entry) (rest : List (ℕ × Entry)) → e.1.binding ≡ binding → list_any (of_binding binding) (e ∷ rest) ≡ true
found_now binding e rest same =
    let found : of_binding binding e ≡ true = grind (arith, nat_tests, same) in
    ap (λ b. b || list_any (of_binding binding) rest) found
