use Rattle.std.proofs.Common.{sym, subst}
use Rattle.std.specs.Prelude.{IfOk, IfErr}
use Rattle.fl_interface.specs.declared.interface.Scalar.{Scalar}
use Rattle.fl_interface.specs.Interface.{scalar}
use Rattle.fl_value_data.specs.Value.{datum_of}
use Rattle.fl_wire.specs.Shapes.{values_of, ReadAt, StopsAt}
use Rattle.fl_wire.proofs.value.read_known_scalar.Goals as goal

pub returns-in-Uint8 : goal.returns-in-Uint8
returns-in-Uint8 c = record {
  within = c.read_scalar.ensures.within;
  later = c.read_scalar.ensures.later;
  read = subst (λ (k : Scalar). IfOk c.read_scalar.result (λ r. ReadAt (values_of (scalar k)) c.args.frags.now c.args.at (datum_of r.0) r.1)) (sym c.in-Uint8.is) c.read_scalar.ensures.read;
  stop = subst (λ (k : Scalar). IfErr c.read_scalar.result (λ stop. StopsAt stop (values_of (scalar k)) c.args.frags.now c.args.at)) (sym c.in-Uint8.is) c.read_scalar.ensures.stop;
}

pub returns-in-Int8 : goal.returns-in-Int8
returns-in-Int8 c = record {
  within = c.read_scalar-in-Int8.ensures.within;
  later = c.read_scalar-in-Int8.ensures.later;
  read = subst (λ (k : Scalar). IfOk c.read_scalar-in-Int8.result (λ r. ReadAt (values_of (scalar k)) c.args.frags.now c.args.at (datum_of r.0) r.1)) (sym c.in-Int8.is) c.read_scalar-in-Int8.ensures.read;
  stop = subst (λ (k : Scalar). IfErr c.read_scalar-in-Int8.result (λ stop. StopsAt stop (values_of (scalar k)) c.args.frags.now c.args.at)) (sym c.in-Int8.is) c.read_scalar-in-Int8.ensures.stop;
}

pub returns-in-Bool : goal.returns-in-Bool
returns-in-Bool c = record {
  within = c.read_scalar-in-Bool.ensures.within;
  later = c.read_scalar-in-Bool.ensures.later;
  read = subst (λ (k : Scalar). IfOk c.read_scalar-in-Bool.result (λ r. ReadAt (values_of (scalar k)) c.args.frags.now c.args.at (datum_of r.0) r.1)) (sym c.in-Bool.is) c.read_scalar-in-Bool.ensures.read;
  stop = subst (λ (k : Scalar). IfErr c.read_scalar-in-Bool.result (λ stop. StopsAt stop (values_of (scalar k)) c.args.frags.now c.args.at)) (sym c.in-Bool.is) c.read_scalar-in-Bool.ensures.stop;
}

pub returns-in-Char : goal.returns-in-Char
returns-in-Char c = record {
  within = c.read_scalar-in-Char.ensures.within;
  later = c.read_scalar-in-Char.ensures.later;
  read = subst (λ (k : Scalar). IfOk c.read_scalar-in-Char.result (λ r. ReadAt (values_of (scalar k)) c.args.frags.now c.args.at (datum_of r.0) r.1)) (sym c.in-Char.is) c.read_scalar-in-Char.ensures.read;
  stop = subst (λ (k : Scalar). IfErr c.read_scalar-in-Char.result (λ stop. StopsAt stop (values_of (scalar k)) c.args.frags.now c.args.at)) (sym c.in-Char.is) c.read_scalar-in-Char.ensures.stop;
}

pub returns-in-Uint16 : goal.returns-in-Uint16
returns-in-Uint16 c = record {
  within = c.read_scalar-in-Uint16.ensures.within;
  later = c.read_scalar-in-Uint16.ensures.later;
  read = subst (λ (k : Scalar). IfOk c.read_scalar-in-Uint16.result (λ r. ReadAt (values_of (scalar k)) c.args.frags.now c.args.at (datum_of r.0) r.1)) (sym c.in-Uint16.is) c.read_scalar-in-Uint16.ensures.read;
  stop = subst (λ (k : Scalar). IfErr c.read_scalar-in-Uint16.result (λ stop. StopsAt stop (values_of (scalar k)) c.args.frags.now c.args.at)) (sym c.in-Uint16.is) c.read_scalar-in-Uint16.ensures.stop;
}

pub returns-in-Int16 : goal.returns-in-Int16
returns-in-Int16 c = record {
  within = c.read_scalar-in-Int16.ensures.within;
  later = c.read_scalar-in-Int16.ensures.later;
  read = subst (λ (k : Scalar). IfOk c.read_scalar-in-Int16.result (λ r. ReadAt (values_of (scalar k)) c.args.frags.now c.args.at (datum_of r.0) r.1)) (sym c.in-Int16.is) c.read_scalar-in-Int16.ensures.read;
  stop = subst (λ (k : Scalar). IfErr c.read_scalar-in-Int16.result (λ stop. StopsAt stop (values_of (scalar k)) c.args.frags.now c.args.at)) (sym c.in-Int16.is) c.read_scalar-in-Int16.ensures.stop;
}

pub returns-in-Uint32 : goal.returns-in-Uint32
returns-in-Uint32 c = record {
  within = c.read_scalar-in-Uint32.ensures.within;
  later = c.read_scalar-in-Uint32.ensures.later;
  read = subst (λ (k : Scalar). IfOk c.read_scalar-in-Uint32.result (λ r. ReadAt (values_of (scalar k)) c.args.frags.now c.args.at (datum_of r.0) r.1)) (sym c.in-Uint32.is) c.read_scalar-in-Uint32.ensures.read;
  stop = subst (λ (k : Scalar). IfErr c.read_scalar-in-Uint32.result (λ stop. StopsAt stop (values_of (scalar k)) c.args.frags.now c.args.at)) (sym c.in-Uint32.is) c.read_scalar-in-Uint32.ensures.stop;
}

pub returns-in-Int32 : goal.returns-in-Int32
returns-in-Int32 c = record {
  within = c.read_scalar-in-Int32.ensures.within;
  later = c.read_scalar-in-Int32.ensures.later;
  read = subst (λ (k : Scalar). IfOk c.read_scalar-in-Int32.result (λ r. ReadAt (values_of (scalar k)) c.args.frags.now c.args.at (datum_of r.0) r.1)) (sym c.in-Int32.is) c.read_scalar-in-Int32.ensures.read;
  stop = subst (λ (k : Scalar). IfErr c.read_scalar-in-Int32.result (λ stop. StopsAt stop (values_of (scalar k)) c.args.frags.now c.args.at)) (sym c.in-Int32.is) c.read_scalar-in-Int32.ensures.stop;
}

pub returns-in-Iref : goal.returns-in-Iref
returns-in-Iref c = record {
  within = c.read_scalar-in-Iref.ensures.within;
  later = c.read_scalar-in-Iref.ensures.later;
  read = subst (λ (k : Scalar). IfOk c.read_scalar-in-Iref.result (λ r. ReadAt (values_of (scalar k)) c.args.frags.now c.args.at (datum_of r.0) r.1)) (sym c.in-Iref.is) c.read_scalar-in-Iref.ensures.read;
  stop = subst (λ (k : Scalar). IfErr c.read_scalar-in-Iref.result (λ stop. StopsAt stop (values_of (scalar k)) c.args.frags.now c.args.at)) (sym c.in-Iref.is) c.read_scalar-in-Iref.ensures.stop;
}

pub returns-in-Uint64 : goal.returns-in-Uint64
returns-in-Uint64 c = record {
  within = c.read_scalar-in-Uint64.ensures.within;
  later = c.read_scalar-in-Uint64.ensures.later;
  read = subst (λ (k : Scalar). IfOk c.read_scalar-in-Uint64.result (λ r. ReadAt (values_of (scalar k)) c.args.frags.now c.args.at (datum_of r.0) r.1)) (sym c.in-Uint64.is) c.read_scalar-in-Uint64.ensures.read;
  stop = subst (λ (k : Scalar). IfErr c.read_scalar-in-Uint64.result (λ stop. StopsAt stop (values_of (scalar k)) c.args.frags.now c.args.at)) (sym c.in-Uint64.is) c.read_scalar-in-Uint64.ensures.stop;
}

pub returns-in-Int64 : goal.returns-in-Int64
returns-in-Int64 c = record {
  within = c.read_scalar-in-Int64.ensures.within;
  later = c.read_scalar-in-Int64.ensures.later;
  read = subst (λ (k : Scalar). IfOk c.read_scalar-in-Int64.result (λ r. ReadAt (values_of (scalar k)) c.args.frags.now c.args.at (datum_of r.0) r.1)) (sym c.in-Int64.is) c.read_scalar-in-Int64.ensures.read;
  stop = subst (λ (k : Scalar). IfErr c.read_scalar-in-Int64.result (λ stop. StopsAt stop (values_of (scalar k)) c.args.frags.now c.args.at)) (sym c.in-Int64.is) c.read_scalar-in-Int64.ensures.stop;
}

pub returns-in-Uintptr : goal.returns-in-Uintptr
returns-in-Uintptr c = record {
  within = c.read_scalar-in-Uintptr.ensures.within;
  later = c.read_scalar-in-Uintptr.ensures.later;
  read = subst (λ (k : Scalar). IfOk c.read_scalar-in-Uintptr.result (λ r. ReadAt (values_of (scalar k)) c.args.frags.now c.args.at (datum_of r.0) r.1)) (sym c.in-Uintptr.is) c.read_scalar-in-Uintptr.ensures.read;
  stop = subst (λ (k : Scalar). IfErr c.read_scalar-in-Uintptr.result (λ stop. StopsAt stop (values_of (scalar k)) c.args.frags.now c.args.at)) (sym c.in-Uintptr.is) c.read_scalar-in-Uintptr.ensures.stop;
}

pub returns-in-Intptr : goal.returns-in-Intptr
returns-in-Intptr c = record {
  within = c.read_scalar-in-Intptr.ensures.within;
  later = c.read_scalar-in-Intptr.ensures.later;
  read = subst (λ (k : Scalar). IfOk c.read_scalar-in-Intptr.result (λ r. ReadAt (values_of (scalar k)) c.args.frags.now c.args.at (datum_of r.0) r.1)) (sym c.in-Intptr.is) c.read_scalar-in-Intptr.ensures.read;
  stop = subst (λ (k : Scalar). IfErr c.read_scalar-in-Intptr.result (λ stop. StopsAt stop (values_of (scalar k)) c.args.frags.now c.args.at)) (sym c.in-Intptr.is) c.read_scalar-in-Intptr.ensures.stop;
}

pub returns-in-Size : goal.returns-in-Size
returns-in-Size c = record {
  within = c.read_scalar-in-Size.ensures.within;
  later = c.read_scalar-in-Size.ensures.later;
  read = subst (λ (k : Scalar). IfOk c.read_scalar-in-Size.result (λ r. ReadAt (values_of (scalar k)) c.args.frags.now c.args.at (datum_of r.0) r.1)) (sym c.in-Size.is) c.read_scalar-in-Size.ensures.read;
  stop = subst (λ (k : Scalar). IfErr c.read_scalar-in-Size.result (λ stop. StopsAt stop (values_of (scalar k)) c.args.frags.now c.args.at)) (sym c.in-Size.is) c.read_scalar-in-Size.ensures.stop;
}

pub returns-in-Errval : goal.returns-in-Errval
returns-in-Errval c = record {
  within = c.read_scalar-in-Errval.ensures.within;
  later = c.read_scalar-in-Errval.ensures.later;
  read = subst (λ (k : Scalar). IfOk c.read_scalar-in-Errval.result (λ r. ReadAt (values_of (scalar k)) c.args.frags.now c.args.at (datum_of r.0) r.1)) (sym c.in-Errval.is) c.read_scalar-in-Errval.ensures.read;
  stop = subst (λ (k : Scalar). IfErr c.read_scalar-in-Errval.result (λ stop. StopsAt stop (values_of (scalar k)) c.args.frags.now c.args.at)) (sym c.in-Errval.is) c.read_scalar-in-Errval.ensures.stop;
}
