-- `flounder_take` asks `flounder_use_eight` for operation 2.
use Rattle.std.proofs.Common.{[], ◌∷◌, refl, lit<}
use base.Fraction.{full_share}
use base.Logic.{id⊢}
use base.Fml.{ftrue, flft}
use mir.Syntax.{named, w32}
use types.Kit.{‵, raw, ◌⊛◌, some, later, ◌$◌, ◌∵◌, !, qed, done, move, keep, drop, use1, split, join, pick, fsplit, await, suffices, group}
use types.Run.{enter, addr, lit, stop, and_then, no_more, returns}
use types.ByLocal.{alloc_all, pass_all, free_all, look_at, get, through, sets, lands_as}
use contract.Monad.{fact}
use contract.Running.{tables}
use denote.Exit.{yes}
use denote.Laws.{Is, shows}
use denote.Builtin.{u32, u64, RawPtr}
use denote.Plain.{uint_vals, uint_Makes}
use denote.RawPtr.{lies_at, rawptr_vals, rawptr_Tells, rawptr_Lawful}
use denote.Array.{Array}
use denote.Ref.{MutRef, mut_vals, mut_Tells}
use denote.Signature.{plain}
use denote.Signature.Array.{array_of}
use denote.Steps.{nothing, owned, peeks}
use denote.Triple.Call.{calls_at}
use denote.Triple.Clauses.{Lasts, lasts}
use denote.Triple.Spec.{triple_of}
use denote.Triple.Table.{framed}
use denote.Triple.Walked.{Stays, walk_of, stay_dropped, gave_ref, Goes-dropped, Goes-gave_ref, ends_at}
use Rattle.std.proofs.raw_atomic.Walks.{proved}
use Rattle.fl_c_operations.specs.contracts.handle.Handle.{the_row as R}
use Rattle.fl_c_operations.specs.contracts.answer.Answered.{the_row as A}
use Rattle.fl_c_operations.proofs.answer.Answered.TheLaws.{the_row_laws as answer_laws}
use Rattle.fl_c_operations.specs.Handles.{Uses}
use Rattle.fl_c.specs.contracts.shortcuts.flounder_take as f
use Rattle.fl_c.proofs.shortcuts.flounder_take.Statement.{statement}
use Rattle.fl_c.proofs.shortcuts.flounder_take.Code as code
use Rattle.fl_c.specs.contracts.exports.flounder_use_eight as g
use Rattle.fl_c.proofs.exports.flounder_use_eight.Met.{met}

abbrev stayed : Stays f.ended.signature.params f.ended.kept
stayed = (stay_dropped (plain (λ _. RawPtr)) yes, (gave_ref (0 ∷ []) tt (array_of (plain (λ _. u64)) 8), tt))

pub flounder_take_spec : {M : Type 1} → statement M
flounder_take_spec 𝓤 𝓛 𝓜 𝓡 wired =
    let c = f.clauses 𝓛 𝓜.mem 𝓡.returns in let W = walk_of 𝓛 f.ended stayed c in
    proved 𝓛 f.ended stayed c 𝓜 𝓡
    (Goes-dropped 𝓛 1 (plain (λ _. RawPtr)) yes (λ κs x w. refl), (Goes-gave_ref 𝓛 1 0 tt (array_of (plain (λ _. u64)) 8), tt))
    f.Key.name code.function (code.unfolded 𝓤 𝓛.H 𝓜 𝓡 wired)
    (λ κs. (rawptr_vals, (mut_vals, tt))) (λ κs. (rawptr_Tells, (mut_Tells (named 0) κs.0 (Array u64 8), tt))) (λ κs qs bounds a before are.
    let κ = κs.0 in let q = qs.0 in let s = a.1.0 in
    let y : W.Ghost = ((κs, qs, bounds, a, (rawptr_vals a.0, (mut_vals s, tt))), before) in
    let G = triple_of 𝓛 g.signature (g.spec 𝓛 𝓜.mem 𝓡.returns) in
    let z : G.Ghost = ((κs, qs, bounds, (a.0, (2, (s, tt))), (rawptr_vals a.0, (uint_vals w32 2, (mut_vals s, tt)))), before) in
    qed 𝓛 (((‵ (flft κ q) ⊛ ‵ ftrue) ⊛ ‵ (RawPtr.own_val a.0 (rawptr_vals a.0)) ⊛ ‵ ((MutRef (named 0) κ (Array u64 8)).own_val s (mut_vals s)) ⊛ ‵ ftrue)
    ∷ ‵ (lies_at R full_share a.0 before) ∷ []) ∵
    split ! $ move ! (1 ∷ []) $ split ! $ move ! (1 ∷ []) $ owned ! u32 _ (uint_Makes 𝓛 w32) 2 (uint_vals w32 2) (refl, lit< tt) $
    -- [the number; the eight; the pointer; the tokens; what lies there]
    join ! $ move ! (1 ∷ []) $ join ! $ move ! (1 ∷ []) $ join ! $ join ! $ use1 𝓛 (raw (G.pre z)) (id⊢ 𝓤 _) $
    enter ! _ _ _ _ _ $
    alloc_all ! (λ l. pass_all ! refl (((rawptr_Lawful 𝓛).typed a.0 (rawptr_vals a.0) refl).0, ((tt, tt), tt)) $
    sets ! (addr ! (through ! refl (stop !))) refl (tt, tt) $
    calls_at ! (framed 𝓤 𝓛.H 𝓜 (tables 𝓤 𝓛.H 𝓜 𝓡 𝓡.env)) G (met 𝓤 𝓛 𝓜 𝓡 (code.calls-fl_c::exports::flounder_use_eight 𝓡.env wired)) z
    (and_then ! (get ! refl) (and_then ! (lit ! tt) (and_then ! (get ! refl) (no_more !)))) (λ v.
    use1 𝓛 (later (some (λ (r : A.Denot). ((‵ (flft κ q) ⊛ ‵ ftrue) ⊛ ‵ (A.own_val r (v ∷ []))) ⊛
    some (λ (ws : Lasts g.ended z.0.0 z.0.3). ‵ (lasts g.ended z.0.0 z.0.3 ws) ⊛
    some (λ (x : R.Denot). ‵ (lies_at R full_share a.0 x) ⊛ raw (fact 𝓤 (Uses before 2 s.now r x ws.1.1.0))))))) (id⊢ 𝓤 _) $
    await ! tt $ pick ! (λ r. split ! $ move ! (1 ∷ []) $ pick ! (λ ws. split ! $
    -- [the last values; what lies there, and what was done; the tokens and the result]
    fsplit ! $ drop ! $ fsplit ! $ drop ! $ fsplit ! $
    -- [the eight's last; nothing; what lies there, and what was done; the tokens and the result]
    move ! (3 ∷ []) $ split ! $ move ! (1 ∷ []) $
    peeks ! A (Is A) (shows 𝓛 A) r (v ∷ []) (λ is. lands_as ! refl refl ((answer_laws.lawful 𝓛).typed r (v ∷ []) is).0 $
    returns ! (look_at ! 0 refl) $ free_all ! refl $
    suffices ! _ (ends_at 𝓛 f.ended stayed c y v r (tt, (ws.1.1.0, tt)) (tt, (tt, tt))) $
    -- [the result; the tokens; the eight's last; nothing; what lies there, and what was done]
    nothing ! $ move ! (3 ∷ 0 ∷ []) $ join ! $ nothing ! $ join ! $ keep ! (2 ∷ 0 ∷ 1 ∷ 4 ∷ []) $ group ! 3 $ done !))))))
