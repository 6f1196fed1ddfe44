-- The two halves of an rpc's arguments.
use Rattle.std.proofs.Common.{◌≡◌, ◌<◌, ℕ, ◌+◌, ◌≤◌, List, [], ◌∷◌, ◌++◌, map, length, drop, get_or, sym, ap, ◌∙◌, append_assoc, append-nil}
use Rattle.std.proofs.lemmas.List.{drop_more, drop_all}
use Rattle.fl_parse.specs.declared.tree.Direction.{Direction}
use Rattle.fl_parse.specs.declared.tree.Direction.TheVariants.{In, Out}
use Rattle.fl_parse.specs.declared.tree.DirectedArgument.{DirectedArgument}
use Rattle.fl_parse.specs.Tree.{TheArgument, argument_of, directed_of}
use Rattle.fl_interface.specs.Interface.{TheArgType}
use Rattle.fl_check.specs.Known.{if_in, if_out, ins, outs}

in_part : (dir : Direction) (f : TheArgument → TheArgType) (x : TheArgument) (a : TheArgType) (rest : List TheArgument) (done : List TheArgType) → a ≡ f x → (done ++ if_in dir a) ++ map f rest ≡ done ++ map f (if_in dir x ++ rest)
in_part In f x a rest done e = append_assoc done (a ∷ []) (map f rest) ∙ ap (λ y. done ++ y ∷ map f rest) e
in_part Out f x a rest done e = ap (λ l. l ++ map f rest) (append-nil done)

out_part : (dir : Direction) (f : TheArgument → TheArgType) (x : TheArgument) (a : TheArgType) (rest : List TheArgument) (done : List TheArgType) → a ≡ f x → (done ++ if_out dir a) ++ map f rest ≡ done ++ map f (if_out dir x ++ rest)
out_part Out f x a rest done e = append_assoc done (a ∷ []) (map f rest) ∙ ap (λ y. done ++ y ∷ map f rest) e
out_part In f x a rest done e = ap (λ l. l ++ map f rest) (append-nil done)

left_is : (ds : List DirectedArgument) (i : ℕ) (x d : DirectedArgument) → i < length ds → x ≡ get_or ds i d → drop i ds ≡ x ∷ drop (i + 1) ds
left_is ds i x d h q = drop_more ds i d h ∙ ap (λ y. y ∷ drop (i + 1) ds) (sym q)

pub ins_push : (f : TheArgument → TheArgType) (ds : List DirectedArgument) (i : ℕ) (x d : DirectedArgument) (done done2 whole : List TheArgType) (a : TheArgType) → i < length ds → x ≡ get_or ds i d → done ++ map f (ins (map directed_of (drop i ds))) ≡ whole → done2 ≡ done ++ if_in x.direction a → a ≡ f (argument_of x.argument) → done2 ++ map f (ins (map directed_of (drop (i + 1) ds))) ≡ whole
ins_push f ds i x d done done2 whole a h q inv more is =
    ap (λ l. l ++ map f (ins (map directed_of (drop (i + 1) ds)))) more
    ∙ in_part x.direction f (argument_of x.argument) a (ins (map directed_of (drop (i + 1) ds))) done is
    ∙ ap (λ l. done ++ map f (ins (map directed_of l))) (sym (left_is ds i x d h q)) ∙ inv

pub outs_push : (f : TheArgument → TheArgType) (ds : List DirectedArgument) (i : ℕ) (x d : DirectedArgument) (done done2 whole : List TheArgType) (a : TheArgType) → i < length ds → x ≡ get_or ds i d → done ++ map f (outs (map directed_of (drop i ds))) ≡ whole → done2 ≡ done ++ if_out x.direction a → a ≡ f (argument_of x.argument) → done2 ++ map f (outs (map directed_of (drop (i + 1) ds))) ≡ whole
outs_push f ds i x d done done2 whole a h q inv more is =
    ap (λ l. l ++ map f (outs (map directed_of (drop (i + 1) ds)))) more
    ∙ out_part x.direction f (argument_of x.argument) a (outs (map directed_of (drop (i + 1) ds))) done is
    ∙ ap (λ l. done ++ map f (outs (map directed_of l))) (sym (left_is ds i x d h q)) ∙ inv

-- nothing is left to be made once the loop has gone past the last part
pub none_left : {X Z : Type 0} (F : List X → List Z) (xs : List X) (i : ℕ) (zs whole : List Z) → length xs ≤ i → F [] ≡ [] → zs ++ F (drop i xs) ≡ whole → zs ≡ whole
none_left F xs i zs whole h stop e = sym (append-nil zs) ∙ ap (λ l. zs ++ l) (sym stop) ∙ ap (λ l. zs ++ F l) (sym (drop_all i xs h)) ∙ e
