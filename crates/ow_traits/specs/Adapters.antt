-- The bytes of the reader and the writer that an adapter owns, where these report them.
use Rattle.std.specs.Prelude.{ℕ, List, Option}
use Rattle.ow_traits.specs.declared.adapters.ReaderSource.{ReaderSource}
use Rattle.ow_traits.specs.declared.adapters.WriterSink.{WriterSink}

-- the bytes that the reader has left
abbrev pub unread : {R : Type 0} → (R → Option (List ℕ)) → ReaderSource R → Option (List ℕ)
unread remaining source = remaining source.reader

-- the bytes that the writer holds
abbrev pub written : {W : Type 0} → (W → Option (List ℕ)) → WriterSink W → Option (List ℕ)
written contents sink = contents sink.writer
