-- The kinds of errors that the core names.
pub data Kind : Type 0 where
  Io : Kind
  Memory : Kind
  Parse : Kind
  Closed : Kind
  Unsupported : Kind
  SequenceEnd : Kind
