-- Another name of fl_interface's definitions, for crates that still say so.
pub use Rattle.fl_interface.specs.Counts.{words_fit, all_words_fit, argument_words_fit, interface_words_fit}
