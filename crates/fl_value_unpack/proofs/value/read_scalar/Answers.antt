use Rattle.std.proofs.Common.{sym, subst}
use Rattle.fl_interface.specs.declared.interface.Scalar.{Scalar}
use Rattle.fl_interface.specs.Interface.{scalar}
use Rattle.fl_value_data.specs.Value.{datum_of}
use Rattle.fl_value_unpack.specs.Reading.{PackedValueAt, OnlyOne}
use Rattle.fl_value_unpack.proofs.value.read_scalar.Goals as goal

pub returns-in-Uint8 : goal.returns-in-Uint8
returns-in-Uint8 c = record { only = subst (λ (k : Scalar). OnlyOne (PackedValueAt (scalar k) c.args.tape.now) (datum_of c.read_one.result.0) c.read_one.result.1.now) (sym c.in-Uint8.is) c.read_one.ensures.only }

pub returns-in-Int8 : goal.returns-in-Int8
returns-in-Int8 c = record { only = subst (λ (k : Scalar). OnlyOne (PackedValueAt (scalar k) c.args.tape.now) (datum_of c.read_one-in-Int8.result.0) c.read_one-in-Int8.result.1.now) (sym c.in-Int8.is) c.read_one-in-Int8.ensures.only }

pub returns-in-Bool : goal.returns-in-Bool
returns-in-Bool c = record { only = subst (λ (k : Scalar). OnlyOne (PackedValueAt (scalar k) c.args.tape.now) (datum_of c.read_one-in-Bool.result.0) c.read_one-in-Bool.result.1.now) (sym c.in-Bool.is) c.read_one-in-Bool.ensures.only }

pub returns-in-Char : goal.returns-in-Char
returns-in-Char c = record { only = subst (λ (k : Scalar). OnlyOne (PackedValueAt (scalar k) c.args.tape.now) (datum_of c.read_one-in-Char.result.0) c.read_one-in-Char.result.1.now) (sym c.in-Char.is) c.read_one-in-Char.ensures.only }

pub returns-in-Uint16 : goal.returns-in-Uint16
returns-in-Uint16 c = record { only = subst (λ (k : Scalar). OnlyOne (PackedValueAt (scalar k) c.args.tape.now) (datum_of c.read_one-in-Uint16.result.0) c.read_one-in-Uint16.result.1.now) (sym c.in-Uint16.is) c.read_one-in-Uint16.ensures.only }

pub returns-in-Int16 : goal.returns-in-Int16
returns-in-Int16 c = record { only = subst (λ (k : Scalar). OnlyOne (PackedValueAt (scalar k) c.args.tape.now) (datum_of c.read_one-in-Int16.result.0) c.read_one-in-Int16.result.1.now) (sym c.in-Int16.is) c.read_one-in-Int16.ensures.only }

pub returns-in-Uint32 : goal.returns-in-Uint32
returns-in-Uint32 c = record { only = subst (λ (k : Scalar). OnlyOne (PackedValueAt (scalar k) c.args.tape.now) (datum_of c.read_one-in-Uint32.result.0) c.read_one-in-Uint32.result.1.now) (sym c.in-Uint32.is) c.read_one-in-Uint32.ensures.only }

pub returns-in-Int32 : goal.returns-in-Int32
returns-in-Int32 c = record { only = subst (λ (k : Scalar). OnlyOne (PackedValueAt (scalar k) c.args.tape.now) (datum_of c.read_one-in-Int32.result.0) c.read_one-in-Int32.result.1.now) (sym c.in-Int32.is) c.read_one-in-Int32.ensures.only }

pub returns-in-Iref : goal.returns-in-Iref
returns-in-Iref c = record { only = subst (λ (k : Scalar). OnlyOne (PackedValueAt (scalar k) c.args.tape.now) (datum_of c.read_one-in-Iref.result.0) c.read_one-in-Iref.result.1.now) (sym c.in-Iref.is) c.read_one-in-Iref.ensures.only }

pub returns-in-Uint64 : goal.returns-in-Uint64
returns-in-Uint64 c = record { only = subst (λ (k : Scalar). OnlyOne (PackedValueAt (scalar k) c.args.tape.now) (datum_of c.read_one-in-Uint64.result.0) c.read_one-in-Uint64.result.1.now) (sym c.in-Uint64.is) c.read_one-in-Uint64.ensures.only }

pub returns-in-Int64 : goal.returns-in-Int64
returns-in-Int64 c = record { only = subst (λ (k : Scalar). OnlyOne (PackedValueAt (scalar k) c.args.tape.now) (datum_of c.read_one-in-Int64.result.0) c.read_one-in-Int64.result.1.now) (sym c.in-Int64.is) c.read_one-in-Int64.ensures.only }

pub returns-in-Uintptr : goal.returns-in-Uintptr
returns-in-Uintptr c = record { only = subst (λ (k : Scalar). OnlyOne (PackedValueAt (scalar k) c.args.tape.now) (datum_of c.read_one-in-Uintptr.result.0) c.read_one-in-Uintptr.result.1.now) (sym c.in-Uintptr.is) c.read_one-in-Uintptr.ensures.only }

pub returns-in-Intptr : goal.returns-in-Intptr
returns-in-Intptr c = record { only = subst (λ (k : Scalar). OnlyOne (PackedValueAt (scalar k) c.args.tape.now) (datum_of c.read_one-in-Intptr.result.0) c.read_one-in-Intptr.result.1.now) (sym c.in-Intptr.is) c.read_one-in-Intptr.ensures.only }

pub returns-in-Size : goal.returns-in-Size
returns-in-Size c = record { only = subst (λ (k : Scalar). OnlyOne (PackedValueAt (scalar k) c.args.tape.now) (datum_of c.read_one-in-Size.result.0) c.read_one-in-Size.result.1.now) (sym c.in-Size.is) c.read_one-in-Size.ensures.only }

pub returns-in-Errval : goal.returns-in-Errval
returns-in-Errval c = record { only = subst (λ (k : Scalar). OnlyOne (PackedValueAt (scalar k) c.args.tape.now) (datum_of c.read_one-in-Errval.result.0) c.read_one-in-Errval.result.1.now) (sym c.in-Errval.is) c.read_one-in-Errval.ensures.only }
