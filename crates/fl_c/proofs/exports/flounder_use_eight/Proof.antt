-- As `flounder_use`, on eight numbers behind one pointer, which is passed on as it came.
use Rattle.std.proofs.Common.{List, [], ◌∷◌, refl}
use base.Fraction.{full_share}
use base.Logic.{sep, emp, ex_i, id⊢}
use types.Logic.{sem}
use base.Fml.{GName, Lft, ftrue, flft, flent}
use mir.Syntax.{named, w32}
use mir.Val.{Val, vptr}
use prog.Wp.{WpFn}
use types.Kit.{‵, raw, ◌⊛◌, some, later, prop, ◌$◌, ◌∵◌, !, qed, done, move, keep, drop, use0, use1, use2, use3, split, join, pick, fsplit, await, regoal, suffices, group}
use types.Tokens.{lft_new, lft_end}
use types.SemTy.{Body}
use types.Run.{enter, of_opd, addr, stop, and_then, no_more, returns}
use types.ByLocal.{alloc_all, pass_all, free_all, look_at, get, through, sets, lands_as}
use contract.Monad.{fact, fact_i}
use contract.Running.{tables}
use denote.Exit.{yes}
use denote.Laws.{Is, shows}
use denote.Builtin.{u32, u64, RawPtr}
use denote.Memory.{mem, part_at}
use denote.Plain.{uint_vals, uint_Tells}
use denote.RawPtr.{Ptr, block_ptr, lies_at, in_a_block, rawptr_vals, rawptr_Tells}
use denote.Array.{Array}
use denote.Ref.{MutRef, mut_vals, mut_Tells}
use denote.Lend.{lends_ref, ref_back}
use denote.Signature.{plain}
use denote.Signature.Array.{array_of}
use denote.Steps.{nothing, peeks, heard}
use denote.Triple.Call.{calls_at}
use denote.Triple.Clauses.{Lasts, lasts}
use denote.Triple.Spec.{triple_of}
use denote.Triple.Table.{framed}
use denote.Triple.Walked.{Stays, walk_of, stay_dropped, gave_ref, Goes-dropped, Goes-gave_ref, ends_at}
use Rattle.std.proofs.raw_atomic.Walks.{proved}
use Rattle.fl_c_operations.specs.contracts.handle.Handle.{the_row as R}
use Rattle.fl_c_operations.specs.contracts.answer.Answered.{the_row as A}
use Rattle.fl_c_operations.proofs.answer.Answered.TheLaws.{the_row_laws as answer_laws}
use Rattle.fl_c_operations.specs.Handles.{Uses}
use Rattle.fl_c.specs.contracts.exports.flounder_use_eight as f
use Rattle.fl_c.proofs.exports.flounder_use_eight.Statement.{statement}
use Rattle.fl_c.proofs.exports.flounder_use_eight.Code as code
use Rattle.fl_c.specs.contracts.exports.use_eight as g
use Rattle.fl_c.proofs.exports.use_eight.Met.{met}

abbrev stayed : Stays f.ended.signature.params f.ended.kept
stayed = (stay_dropped (plain (λ _. RawPtr)) yes, (stay_dropped (plain (λ _. u32)) yes, (gave_ref (0 ∷ []) tt (array_of (plain (λ _. u64)) 8), tt)))

pub flounder_use_eight_spec : {M : Type 1} → statement M
flounder_use_eight_spec 𝓤 𝓛 𝓜 𝓡 wired =
    let c = f.clauses 𝓛 𝓜.mem 𝓡.returns in let W = walk_of 𝓛 f.ended stayed c in let 𝓣 = tables 𝓤 𝓛.H 𝓜 𝓡 𝓡.env in
    proved 𝓛 f.ended stayed c 𝓜 𝓡
    (Goes-dropped 𝓛 1 (plain (λ _. RawPtr)) yes (λ κs x w. refl), (Goes-dropped 𝓛 1 (plain (λ _. u32)) yes (λ κs x w. refl), (Goes-gave_ref 𝓛 1 0 tt (array_of (plain (λ _. u64)) 8), tt)))
    f.Key.name code.function (code.unfolded 𝓤 𝓛.H 𝓜 𝓡 wired)
    (λ κs. (rawptr_vals, (uint_vals w32, (mut_vals, tt)))) (λ κs. (rawptr_Tells, (uint_Tells w32, (mut_Tells (named 0) κs.0 (Array u64 8), tt)))) (λ κs qs bounds a before are.
    let κ = κs.0 in let q = qs.0 in let what = a.1.0 in let s = a.1.1.0 in
    let vss : Ptr → List Val × (List Val × (List Val × Unit {0})) = λ p. (rawptr_vals p, (uint_vals w32 what, (mut_vals s, tt))) in
    let y : Ptr → W.Ghost = λ p. ((κs, qs, bounds, (p, a.1), vss p), before) in
    qed 𝓛 (((‵ (flft κ q) ⊛ ‵ ftrue) ⊛ ‵ (RawPtr.own_val a.0 (rawptr_vals a.0)) ⊛ ‵ (u32.own_val what (uint_vals w32 what)) ⊛ ‵ ((MutRef (named 0) κ (Array u64 8)).own_val s (mut_vals s)) ⊛ ‵ ftrue)
    ∷ ‵ (lies_at R full_share a.0 before) ∷ []) ∵
    split ! $ split ! $ move ! (2 ∷ []) $ split ! $ drop ! $ split ! $ move ! (1 ∷ []) $ split ! $ keep ! (5 ∷ 3 ∷ 2 ∷ 0 ∷ []) $
    -- [what lies there; the token of κ; the two numbers; the eight]
    in_a_block ! a.0 (λ p. lies_at R full_share p before) (id⊢ 𝓤 _) (λ b o e.
    regoal ! (λ p. prop (WpFn 𝓤 𝓛.H 𝓣.C 𝓣.Λ code.function (W.args (y p)) (W.post (y p)))) e refl $
    enter ! _ _ _ _ _ $ alloc_all ! (λ l. pass_all ! refl ((tt, tt), ((tt, record { fits = are.1.0.1 }), ((tt, tt), tt))) $
    sets ! (of_opd ! (get ! refl)) refl (tt, tt) $
    sets ! (addr ! (through ! refl (stop !))) refl (tt, tt) $
    sets ! (addr ! (through ! refl (stop !))) refl (tt, tt) $
    lft_new ! tt (λ α. let κ' : Lft = α ∷ [] in move ! (1 ∷ []) $
    use1 𝓛 (later (some (λ (γ : GName). ‵ ((MutRef (named 0) κ' R).own_val (record { ref_ptr = (b, o); ghost_name = γ; now = before }) (vptr b o ∷ [])) ⊛ ‵ (flent κ' (Body (mem R) b o γ)))))
    (lends_ref 𝓛 R (named 0) κ' before b o) $ await ! tt $ pick ! (λ γ. split ! $
    -- [the loan; the lender's part; the token of α; that of κ; the two numbers; the eight]
    let G = triple_of 𝓛 g.signature (g.spec 𝓛 𝓜.mem 𝓡.returns) in
    let z : G.Ghost = (((κ', (κ, tt)), (full_share, (q, tt)), tt, (record { ref_ptr = (b, o); ghost_name = γ; now = before }, a.1), (vptr b o ∷ [], (vss a.0).1)), tt) in
    nothing ! $ move ! (6 ∷ 0 ∷ []) $ join ! $ move ! (5 ∷ 0 ∷ []) $ join ! $ move ! (1 ∷ 0 ∷ []) $ join ! $
    nothing ! $ move ! (4 ∷ 0 ∷ []) $ join ! $ move ! (3 ∷ 0 ∷ []) $ join ! $ join ! $ nothing ! $ move ! (1 ∷ 0 ∷ []) $ use2 𝓛 (raw (G.pre z)) (id⊢ 𝓤 _) $
    calls_at ! (framed 𝓤 𝓛.H 𝓜 (tables 𝓤 𝓛.H 𝓜 𝓡 𝓡.env)) G (met 𝓤 𝓛 𝓜 𝓡 (code.calls-fl_c::exports::use_eight 𝓡.env wired)) z
    (and_then ! (get ! refl) (and_then ! (get ! refl) (and_then ! (get ! refl) (no_more !)))) (λ v.
    use1 𝓛 (later (some (λ (r : A.Denot). ((‵ (flft κ' full_share) ⊛ ‵ (flft κ q) ⊛ ‵ ftrue) ⊛ ‵ (A.own_val r (v ∷ []))) ⊛
    some (λ (ws : Lasts g.ended z.0.0 z.0.3). ‵ (lasts g.ended z.0.0 z.0.3 ws) ⊛ raw (fact 𝓤 (Uses before what s.now r ws.0 ws.1.1.0)))))) (id⊢ 𝓤 _) $
    await ! tt $ pick ! (λ r. split ! $ move ! (1 ∷ []) $ pick ! (λ ws. split ! $ move ! (1 ∷ []) $ heard ! _ (λ did.
    fsplit ! $ fsplit ! $ move ! (1 ∷ []) $ drop ! $ move ! (1 ∷ []) $ fsplit ! $ drop ! $ fsplit ! $
    -- [the eight's last; nothing; the loan's last; the tokens and the result; the lender's part]
    move ! (3 ∷ []) $ split ! $ split ! $ lft_end ! tt $ move ! (0 ∷ 6 ∷ 5 ∷ []) $ use3 𝓛 (later (‵ (part_at R full_share ws.0 b o))) (ref_back 𝓛 R κ' γ ws.0 b o) $ await ! tt $
    use0 𝓛 (raw (fact 𝓤 (Uses before what s.now r ws.0 ws.1.1.0))) (fact_i 𝓤 (Uses before what s.now r ws.0 ws.1.1.0) (emp 𝓤) did) $ move ! (1 ∷ []) $ join ! $
    use1 𝓛 (some (λ (x : R.Denot). ‵ (part_at R full_share x b o) ⊛ raw (fact 𝓤 (Uses before what s.now r x ws.1.1.0))))
    (ex_i 𝓤 (λ (x : R.Denot). sep 𝓤 (sem 𝓛 (part_at R full_share x b o)) (fact 𝓤 (Uses before what s.now r x ws.1.1.0))) ws.0) $
    -- [what lies there, and what was done; the token of κ; the result; the eight's last; nothing]
    move ! (2 ∷ []) $ peeks ! A (Is A) (shows 𝓛 A) r (v ∷ []) (λ is. lands_as ! refl refl ((answer_laws.lawful 𝓛).typed r (v ∷ []) is).0 $
    returns ! (look_at ! 0 refl) $ free_all ! refl $
    suffices ! _ (ends_at 𝓛 f.ended stayed c (y (block_ptr b o)) v r (tt, (tt, (ws.1.1.0, tt))) (tt, (tt, (tt, tt)))) $
    nothing ! $ move ! (4 ∷ 0 ∷ []) $ join ! $ nothing ! $ join ! $ nothing ! $ join ! $ keep ! (3 ∷ 0 ∷ 1 ∷ 2 ∷ []) $ group ! 3 $ done !))))))))))
