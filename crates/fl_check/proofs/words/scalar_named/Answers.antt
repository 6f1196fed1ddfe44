use Rattle.std.proofs.Common.{codes, sym, ap, arith, rules}
use Rattle.std.proofs.lemmas.Slice.Eq.{HasBytesAt, text_from_reads}
use Rattle.fl_check.specs.Known.{scalar_named}
use Rattle.fl_check.proofs.words.scalar_named.Goals as goal

pub returns-in-uint8 : goal.returns-in-uint8
unfolding scalar_named
returns-in-uint8 c =
    let h : HasBytesAt c.args.name.now 0 (codes "uint8") = search rules in
    record { exact = ap scalar_named (sym (text_from_reads c.args.name.now (codes "uint8") (omega arith) h)) }

pub returns-in-int8 : goal.returns-in-int8
unfolding scalar_named
returns-in-int8 c =
    let h : HasBytesAt c.args.name.now 0 (codes "int8") = search rules in
    record { exact = ap scalar_named (sym (text_from_reads c.args.name.now (codes "int8") (omega arith) h)) }

pub returns-in-bool : goal.returns-in-bool
unfolding scalar_named
returns-in-bool c =
    let h : HasBytesAt c.args.name.now 0 (codes "bool") = search rules in
    record { exact = ap scalar_named (sym (text_from_reads c.args.name.now (codes "bool") (omega arith) h)) }

pub returns-in-char : goal.returns-in-char
unfolding scalar_named
returns-in-char c =
    let h : HasBytesAt c.args.name.now 0 (codes "char") = search rules in
    record { exact = ap scalar_named (sym (text_from_reads c.args.name.now (codes "char") (omega arith) h)) }

pub returns-in-uint16 : goal.returns-in-uint16
unfolding scalar_named
returns-in-uint16 c =
    let h : HasBytesAt c.args.name.now 0 (codes "uint16") = search rules in
    record { exact = ap scalar_named (sym (text_from_reads c.args.name.now (codes "uint16") (omega arith) h)) }

pub returns-in-int16 : goal.returns-in-int16
unfolding scalar_named
returns-in-int16 c =
    let h : HasBytesAt c.args.name.now 0 (codes "int16") = search rules in
    record { exact = ap scalar_named (sym (text_from_reads c.args.name.now (codes "int16") (omega arith) h)) }

pub returns-in-uint32 : goal.returns-in-uint32
unfolding scalar_named
returns-in-uint32 c =
    let h : HasBytesAt c.args.name.now 0 (codes "uint32") = search rules in
    record { exact = ap scalar_named (sym (text_from_reads c.args.name.now (codes "uint32") (omega arith) h)) }

pub returns-in-int32 : goal.returns-in-int32
unfolding scalar_named
returns-in-int32 c =
    let h : HasBytesAt c.args.name.now 0 (codes "int32") = search rules in
    record { exact = ap scalar_named (sym (text_from_reads c.args.name.now (codes "int32") (omega arith) h)) }

pub returns-in-iref : goal.returns-in-iref
unfolding scalar_named
returns-in-iref c =
    let h : HasBytesAt c.args.name.now 0 (codes "iref") = search rules in
    record { exact = ap scalar_named (sym (text_from_reads c.args.name.now (codes "iref") (omega arith) h)) }

pub returns-in-uint64 : goal.returns-in-uint64
unfolding scalar_named
returns-in-uint64 c =
    let h : HasBytesAt c.args.name.now 0 (codes "uint64") = search rules in
    record { exact = ap scalar_named (sym (text_from_reads c.args.name.now (codes "uint64") (omega arith) h)) }

pub returns-in-int64 : goal.returns-in-int64
unfolding scalar_named
returns-in-int64 c =
    let h : HasBytesAt c.args.name.now 0 (codes "int64") = search rules in
    record { exact = ap scalar_named (sym (text_from_reads c.args.name.now (codes "int64") (omega arith) h)) }

pub returns-in-uintptr : goal.returns-in-uintptr
unfolding scalar_named
returns-in-uintptr c =
    let h : HasBytesAt c.args.name.now 0 (codes "uintptr") = search rules in
    record { exact = ap scalar_named (sym (text_from_reads c.args.name.now (codes "uintptr") (omega arith) h)) }

pub returns-in-intptr : goal.returns-in-intptr
unfolding scalar_named
returns-in-intptr c =
    let h : HasBytesAt c.args.name.now 0 (codes "intptr") = search rules in
    record { exact = ap scalar_named (sym (text_from_reads c.args.name.now (codes "intptr") (omega arith) h)) }

pub returns-in-size : goal.returns-in-size
unfolding scalar_named
returns-in-size c =
    let h : HasBytesAt c.args.name.now 0 (codes "size") = search rules in
    record { exact = ap scalar_named (sym (text_from_reads c.args.name.now (codes "size") (omega arith) h)) }

pub returns-in-errval : goal.returns-in-errval
unfolding scalar_named
returns-in-errval c =
    let h : HasBytesAt c.args.name.now 0 (codes "errval") = search rules in
    record { exact = ap scalar_named (sym (text_from_reads c.args.name.now (codes "errval") (omega arith) h)) }
