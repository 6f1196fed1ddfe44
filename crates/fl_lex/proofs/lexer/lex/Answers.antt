use Rattle.std.proofs.Common.{◌≡◌, ℕ, List, length, map, subst, refl, sym, arith, eqb-true}
use Rattle.std.proofs.lemmas.List.{nil_from_length}
use Rattle.std.proofs.lemmas.Result.{err_from_is_err_and}
use Rattle.fl_lex.specs.Spelling.{IsItem, Spells}
use Rattle.fl_lex.specs.Item.{item_of, ItemFits, Cuts}
use Rattle.fl_lex.specs.Token.{token_of}
use Rattle.fl_lex.proofs.Lexing.{goes_on, still_fits, fault_ends}
use Rattle.fl_lex.proofs.Turns.{tokens_in}
use Rattle.fl_lex.proofs.lexer.lex.Goals as goal

-- a flaw at the beginning of what is left
pub returns-in_err-piece-clause-outcome : goal.returns-in_err-piece-clause-outcome
returns-in_err-piece-clause-outcome c =
    let passed = err_from_is_err_and c.from_residual.result c.from_residual.ensures.1 in
    let so_far = c.loop-rest.invariant in
    rw (passed.1, passed.2) (fault_ends _ _ _ c.if-text-gt-MAX_TEXT.false so_far.within so_far.spelled so_far.fits _ _ refl c.in_err-piece.ensures.found)

pub keep-requires : goal.keep-requires
keep-requires c =
    let cut : Cuts c.loop-rest.rest.now (item_of c.in_ok-piece.piece.kind) c.in_ok-piece.piece.length = c.in_ok-piece.ensures.found in
    let front = sym c.split_at.ensures.front in
    record {
      right = record {
        is_item = subst (λ (bytes : List ℕ). IsItem (item_of c.in_ok-piece.piece.kind) bytes) front cut.begins.is_item;
        fits = subst (λ (bytes : List ℕ). ItemFits (item_of c.in_ok-piece.piece.kind) bytes) front cut.fits;
      };
    }

-- one more item
pub loop-rest-preserved : goal.loop-rest-preserved
loop-rest-preserved c =
    let so_far = c.loop-rest.invariant in
    let cut = c.in_ok-piece.ensures.found in
    let parts = c.split_at.ensures in
    record {
      within = omega (arith, so_far.within, parts.back_len);
      spelled = goes_on _ _ _ _ _ _ _ _ _ cut parts.front c.in_ok-keep.ensures.kept so_far.within refl parts.back so_far.spelled;
      fits = still_fits c.args.text.now _ _ _ _ _ _ _ c.split_at.result.1.now cut parts.front c.in_ok-keep.ensures.kept so_far.fits;
    }

-- the whole text is read
pub returns-clause-tokens : goal.returns-clause-tokens
returns-clause-tokens c =
    let none : length c.loop-rest.rest.now ≡ 0 = eqb-true _ _ (sym c.loop-rest-test.ensures) in
    tokens_in _ _ (record {
      short = c.if-text-gt-MAX_TEXT.false;
      whole = refl;
      spelled = subst (λ left. Spells c.args.text.now (map token_of c.loop-rest.items.items) left) (nil_from_length _ none) c.loop-rest.invariant.spelled;
      fits = c.loop-rest.invariant.fits;
    })
