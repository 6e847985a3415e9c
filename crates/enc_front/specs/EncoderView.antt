-- What an encoder shows.
use Rattle.std.specs.Prelude.{ℕ}
use Rattle.enc_drivers.specs.Encode.{BytesOf}
use Rattle.enc_front.specs.declared.encoder.Encoder.{Encoder}
use Rattle.enc_front.specs.declared.encoding.Encoding.{Encoding}
use Rattle.enc_front.specs.Encoder.{bytes_in, most_bytes}
use Rattle.enc_front.specs.Indexes.{Indexes, indexes_of}

-- the encoding that is encoded to
abbrev pub encoding_to : Encoder → Encoding
encoding_to encoder = encoder.encoding

-- its indexes
abbrev pub indexes_to : Encoder → Indexes
indexes_to encoder = indexes_of encoder.tables.now

-- the bytes of a scalar, none where it has none
abbrev pub bytes_to : Encoder → BytesOf
bytes_to encoder = bytes_in (encoding_to encoder) (indexes_to encoder)

-- how many bytes a scalar has at most
abbrev pub most_to : Encoder → ℕ
most_to encoder = most_bytes (encoding_to encoder)
