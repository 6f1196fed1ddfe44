use Rattle.std.proofs.Common.{◌≡◌, ◌+◌, map, ap, sym, subst, IfOk, IfErr}
use Rattle.std.proofs.lemmas.Result.{err_from_is_err_and}
use Rattle.fl_interface.specs.Interface.{TheArgType, fixed, text, sized, type_of, arg_type_of}
use Rattle.fl_value_data.specs.Value.{Datum, string, elements, datum_of, data_from}
use Rattle.fl_wire.specs.Shapes.{length_below, texts_of, elements_of, arguments_of, ReadAt, StopsAt}
use Rattle.fl_wire.proofs.Steps.{first_stop, come_rest, come_done}
use Rattle.fl_wire.proofs.Parts.{begins_text, begins_sized, text_start, sized_start}
use Rattle.fl_wire.proofs.value.read_argument.Goals as goal

pub returns-in_err-count-in-Text-clause-stop : goal.returns-in_err-count-in-Text-clause-stop
returns-in_err-count-in-Text-clause-stop c =
    let most = c.in-Text.most in
    let ty : arg_type_of c.args.ty.now ≡ text most = ap arg_type_of c.in-Text.is in
    let p = err_from_is_err_and c.from_residual.result c.from_residual.ensures.1 in
    let stop = c.in_err-count-in-Text.field-0.0 in
    rw (p.1, p.2) (subst (λ (u : TheArgType). StopsAt stop (arguments_of u) c.args.frags.now c.args.at) (sym ty)
    (first_stop (arguments_of (text most)) (length_below (most + 1)) (λ n. texts_of n) c.args.frags.now c.args.at (λ n bs. string bs) stop (begins_text most) c.in_err-count-in-Text.ensures.stop))

pub returns-in_err-bytes-in-Text-clause-stop : goal.returns-in_err-bytes-in-Text-clause-stop
returns-in_err-bytes-in-Text-clause-stop c =
    let most = c.in-Text.most in
    let ty : arg_type_of c.args.ty.now ≡ text most = ap arg_type_of c.in-Text.is in
    let n = c.in_ok-count-in-Text.count in
    let start = c.in_ok-count-in-Text.start in
    let come = text_start most n c.args.frags.now c.args.at start c.in_ok-count-in-Text.ensures.later c.in_ok-count-in-Text.ensures.within c.in_ok-count-in-Text.ensures.read in
    let p = err_from_is_err_and c.from_residual-in_err-bytes-in-Text.result c.from_residual-in_err-bytes-in-Text.ensures.1 in
    let stop = c.in_err-bytes-in-Text.field-0.0 in
    rw (p.1, p.2) (subst (λ (u : TheArgType). StopsAt stop (arguments_of u) c.args.frags.now c.args.at) (sym ty)
    (come_rest (arguments_of (text most)) (texts_of n) c.args.frags.now c.args.at start (λ bs. string bs) stop come c.in_err-bytes-in-Text.ensures.stop))

pub returns-in_err-count-in-Sized-clause-stop : goal.returns-in_err-count-in-Sized-clause-stop
returns-in_err-count-in-Sized-clause-stop c =
    let most = c.in-Sized.most in
    let e = type_of c.in-Sized.element in
    let ty : arg_type_of c.args.ty.now ≡ sized most e = ap arg_type_of c.in-Sized.is in
    let p = err_from_is_err_and c.from_residual-in_err-count-in-Sized.result c.from_residual-in_err-count-in-Sized.ensures.1 in
    let stop = c.in_err-count-in-Sized.field-0.0 in
    rw (p.1, p.2) (subst (λ (u : TheArgType). StopsAt stop (arguments_of u) c.args.frags.now c.args.at) (sym ty)
    (first_stop (arguments_of (sized most e)) (length_below (most + 1)) (λ n. elements_of n e) c.args.frags.now c.args.at (λ n ds. elements ds) stop (begins_sized most e) c.in_err-count-in-Sized.ensures.stop))

pub returns-in_err-values-in-Sized-clause-stop : goal.returns-in_err-values-in-Sized-clause-stop
returns-in_err-values-in-Sized-clause-stop c =
    let most = c.in-Sized.most in
    let e = type_of c.in-Sized.element in
    let ty : arg_type_of c.args.ty.now ≡ sized most e = ap arg_type_of c.in-Sized.is in
    let n = c.in_ok-count-in-Sized.count in
    let start = c.in_ok-count-in-Sized.start in
    let come = sized_start most n e c.args.frags.now c.args.at start c.in_ok-count-in-Sized.ensures.later c.in_ok-count-in-Sized.ensures.within c.in_ok-count-in-Sized.ensures.read in
    let p = err_from_is_err_and c.from_residual-in_err-values-in-Sized.result c.from_residual-in_err-values-in-Sized.ensures.1 in
    let stop = c.in_err-values-in-Sized.field-0.0 in
    rw (p.1, p.2) (subst (λ (u : TheArgType). StopsAt stop (arguments_of u) c.args.frags.now c.args.at) (sym ty)
    (come_rest (arguments_of (sized most e)) (elements_of n e) c.args.frags.now c.args.at start (λ ds. elements ds) stop come c.in_err-values-in-Sized.ensures.stop))

pub returns-in-Fixed-clause-read : goal.returns-in-Fixed-clause-read
returns-in-Fixed-clause-read c =
    let ty : arg_type_of c.args.ty.now ≡ fixed (type_of c.in-Fixed.fixed) = ap arg_type_of c.in-Fixed.is in
    subst (λ (u : TheArgType). IfOk c.read_value.result (λ r. ReadAt (arguments_of u) c.args.frags.now c.args.at (datum_of r.0) r.1)) (sym ty) c.read_value.ensures.read

pub returns-in_ok-bytes-in-Text-clause-read : goal.returns-in_ok-bytes-in-Text-clause-read
returns-in_ok-bytes-in-Text-clause-read c =
    let most = c.in-Text.most in
    let ty : arg_type_of c.args.ty.now ≡ text most = ap arg_type_of c.in-Text.is in
    let n = c.in_ok-count-in-Text.count in
    let start = c.in_ok-count-in-Text.start in
    let come = text_start most n c.args.frags.now c.args.at start c.in_ok-count-in-Text.ensures.later c.in_ok-count-in-Text.ensures.within c.in_ok-count-in-Text.ensures.read in
    let bytes = c.in_ok-bytes-in-Text.bytes.items in
    let end = c.in_ok-bytes-in-Text.end in
    subst (λ (u : TheArgType). ReadAt (arguments_of u) c.args.frags.now c.args.at (datum_of c.text_value.result) end) (sym ty)
    (subst (λ (d : Datum). ReadAt (arguments_of (text most)) c.args.frags.now c.args.at d end) (sym c.text_value.ensures.value)
    (come_done (arguments_of (text most)) (texts_of n) c.args.frags.now c.args.at start end (λ bs. string bs) bytes come c.in_ok-bytes-in-Text.ensures.later c.in_ok-bytes-in-Text.ensures.read))

pub returns-in_ok-values-in-Sized-clause-read : goal.returns-in_ok-values-in-Sized-clause-read
returns-in_ok-values-in-Sized-clause-read c =
    let most = c.in-Sized.most in
    let e = type_of c.in-Sized.element in
    let ty : arg_type_of c.args.ty.now ≡ sized most e = ap arg_type_of c.in-Sized.is in
    let n = c.in_ok-count-in-Sized.count in
    let start = c.in_ok-count-in-Sized.start in
    let come = sized_start most n e c.args.frags.now c.args.at start c.in_ok-count-in-Sized.ensures.later c.in_ok-count-in-Sized.ensures.within c.in_ok-count-in-Sized.ensures.read in
    let ds = data_from (map datum_of c.in_ok-values-in-Sized.values.items) in
    let end = c.in_ok-values-in-Sized.end in
    subst (λ (u : TheArgType). ReadAt (arguments_of u) c.args.frags.now c.args.at (datum_of c.list_value.result) end) (sym ty)
    (subst (λ (d : Datum). ReadAt (arguments_of (sized most e)) c.args.frags.now c.args.at d end) (sym c.list_value.ensures.value)
    (come_done (arguments_of (sized most e)) (elements_of n e) c.args.frags.now c.args.at start end (λ ds. elements ds) ds come c.in_ok-values-in-Sized.ensures.later c.in_ok-values-in-Sized.ensures.read))

pub returns-in-Fixed-clause-stop : goal.returns-in-Fixed-clause-stop
returns-in-Fixed-clause-stop c =
    let ty : arg_type_of c.args.ty.now ≡ fixed (type_of c.in-Fixed.fixed) = ap arg_type_of c.in-Fixed.is in
    subst (λ (u : TheArgType). IfErr c.read_value.result (λ stop. StopsAt stop (arguments_of u) c.args.frags.now c.args.at)) (sym ty) c.read_value.ensures.stop
