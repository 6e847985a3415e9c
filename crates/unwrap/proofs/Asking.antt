-- What a command line asks for, value by value.
use Rattle.std.proofs.Common.{◌≡◌, ℕ, Bool, List, [], Option, Some, None, Result, Err, refl, sym, subst, ap, ◌∙◌}
use Rattle.std.specs.Prelude.{codes, not, option_and_then, unwrap_or}
use Rattle.std.specs.Option.{option_map}
use Rattle.clap.specs.Words.{App, Row, Text, all_of, first_of}
use Rattle.enc_front.specs.declared.encoding.Encoding.{Encoding}
use Rattle.unwrap.specs.declared.command_line.Command.{Command}
use Rattle.unwrap.specs.declared.command_line.matched.Refusal.{Refusal}
use Rattle.unwrap.specs.declared.command_line.matched.Refusal.TheVariants.{Usage}
use Rattle.unwrap.specs.declared.command_line.options.ReaderOptions.{ReaderOptions}
use Rattle.unwrap.specs.Asked.{Asked, Stream, has_flag, quoted_in, quoted_with, reader_in, reader_with, stream_in, stream_with}
use Rattle.unwrap.specs.Commands.{Gives}
use Rattle.unwrap.specs.Matched.{matched_in}
use Rattle.unwrap.specs.Numbers.{number_read}
use Rattle.unwrap.specs.Values.{encoding_read, files_read}

-- a value that is there, or isn't
bound : {A B : Type 0} (f : A → Option B) (o : Option A) (a : A) → Some a ≡ o → option_and_then f o ≡ f a
bound f o a h = sym (ap (option_and_then f) h)

unbound : {A B : Type 0} (f : A → Option B) (o : Option A) → None ≡ o → option_and_then f o ≡ None
unbound f o h = sym (ap (option_and_then f) h)

mapped : {A B : Type 0} (f : A → B) (o : Option A) (a : A) → Some a ≡ o → option_map f o ≡ Some (f a)
mapped f o a h = sym (ap (option_map f) h)

unmapped : {A B : Type 0} (f : A → B) (o : Option A) → None ≡ o → option_map f o ≡ None
unmapped f o h = sym (ap (option_map f) h)

-- how a stream is read
pub reader_is : (default : ℕ) (rows : List Row) (encoding : Option Encoding) (limit : ℕ) (passthru strip override sniffing : Bool)
    → Some encoding ≡ encoding_read (first_of (codes "encoding") rows) → Some limit ≡ number_read 0 999999999 default (first_of (codes "limit") rows)
    → passthru ≡ has_flag (codes "utf8-passthru") rows → strip ≡ has_flag (codes "strip-bom") rows → override ≡ has_flag (codes "bom-override") rows
    → sniffing ≡ not (has_flag (codes "no-bom-sniffing") rows)
    → Some (record { encoding = encoding; utf8_passthru = passthru; strip_bom = strip; bom_override = override; bom_sniffing = sniffing; limit = limit }) ≡ reader_in default rows
unfolding reader_in
reader_is default rows encoding limit passthru strip override sniffing h1 h2 f1 f2 f3 f4 =
    let same : reader_with rows encoding limit ≡ record { encoding = encoding; utf8_passthru = passthru; strip_bom = strip; bom_override = override; bom_sniffing = sniffing; limit = limit } =
    rw (f1, f2, f3, f4) refl in
    sym (bound (λ e. option_map (reader_with rows e) (number_read 0 999999999 default (first_of (codes "limit") rows))) _ encoding h1
    ∙ mapped (reader_with rows encoding) _ limit h2 ∙ ap Some same)

pub no_encoding : (default : ℕ) (rows : List Row) → None ≡ encoding_read (first_of (codes "encoding") rows) → None ≡ reader_in default rows
unfolding reader_in
no_encoding default rows h = sym (unbound (λ e. option_map (reader_with rows e) (number_read 0 999999999 default (first_of (codes "limit") rows))) _ h)

pub no_limit : (default : ℕ) (rows : List Row) (encoding : Option Encoding) → Some encoding ≡ encoding_read (first_of (codes "encoding") rows)
    → None ≡ number_read 0 999999999 default (first_of (codes "limit") rows) → None ≡ reader_in default rows
unfolding reader_in
no_limit default rows encoding h1 h2 =
    sym (bound (λ e. option_map (reader_with rows e) (number_read 0 999999999 default (first_of (codes "limit") rows))) _ encoding h1
    ∙ unmapped (reader_with rows encoding) _ h2)

-- quoted-printable text
pub quoted_is : (flag : Text) (rows : List Row) (line limit : ℕ) (chosen : Bool)
    → Some line ≡ number_read 6 998 76 (first_of (codes "line") rows) → Some limit ≡ number_read 0 999999999 1048576 (first_of (codes "limit") rows)
    → chosen ≡ has_flag flag rows → Some (record { chosen = chosen; line = line; limit = limit }) ≡ quoted_in flag rows
unfolding quoted_in
quoted_is flag rows line limit chosen h1 h2 f =
    let same : quoted_with flag rows line limit ≡ record { chosen = chosen; line = line; limit = limit } = rw f refl in
    sym (bound (λ l. option_map (quoted_with flag rows l) (number_read 0 999999999 1048576 (first_of (codes "limit") rows))) _ line h1
    ∙ mapped (quoted_with flag rows line) _ limit h2 ∙ ap Some same)

pub no_line : (flag : Text) (rows : List Row) → None ≡ number_read 6 998 76 (first_of (codes "line") rows) → None ≡ quoted_in flag rows
unfolding quoted_in
no_line flag rows h = sym (unbound (λ l. option_map (quoted_with flag rows l) (number_read 0 999999999 1048576 (first_of (codes "limit") rows))) _ h)

pub no_quoted_limit : (flag : Text) (rows : List Row) (line : ℕ) → Some line ≡ number_read 6 998 76 (first_of (codes "line") rows)
    → None ≡ number_read 0 999999999 1048576 (first_of (codes "limit") rows) → None ≡ quoted_in flag rows
unfolding quoted_in
no_quoted_limit flag rows line h1 h2 =
    sym (bound (λ l. option_map (quoted_with flag rows l) (number_read 0 999999999 1048576 (first_of (codes "limit") rows))) _ line h1
    ∙ unmapped (quoted_with flag rows line) _ h2)

-- a stream's options, step by step
abbrev with_piece : List Row → ReaderOptions → ℕ → ℕ → Option Stream
with_piece rows reader buffer piece = option_map (stream_with reader buffer piece) (files_read (unwrap_or (all_of (codes "index") rows) []))

abbrev with_buffer : List Row → ReaderOptions → ℕ → Option Stream
with_buffer rows reader buffer = option_and_then (with_piece rows reader buffer) (number_read 1 1048576 4096 (first_of (codes "piece") rows))

abbrev with_reader : List Row → ReaderOptions → Option Stream
with_reader rows reader = option_and_then (with_buffer rows reader) (number_read 4 1048576 8192 (first_of (codes "buffer") rows))

pub no_reader : (default : ℕ) (rows : List Row) → None ≡ reader_in default rows → stream_in default rows ≡ None
unfolding stream_in
no_reader default rows h = unbound (with_reader rows) _ h

pub no_buffer : (default : ℕ) (rows : List Row) (reader : ReaderOptions) → Some reader ≡ reader_in default rows
    → None ≡ number_read 4 1048576 8192 (first_of (codes "buffer") rows) → stream_in default rows ≡ None
unfolding stream_in
no_buffer default rows reader h1 h2 = bound (with_reader rows) _ reader h1 ∙ unbound (with_buffer rows reader) _ h2

pub no_piece : (default : ℕ) (rows : List Row) (reader : ReaderOptions) (buffer : ℕ) → Some reader ≡ reader_in default rows
    → Some buffer ≡ number_read 4 1048576 8192 (first_of (codes "buffer") rows) → None ≡ number_read 1 1048576 4096 (first_of (codes "piece") rows)
    → stream_in default rows ≡ None
unfolding stream_in
no_piece default rows reader buffer h1 h2 h3 =
    bound (with_reader rows) _ reader h1 ∙ bound (with_buffer rows reader) _ buffer h2 ∙ unbound (with_piece rows reader buffer) _ h3

pub to_files : (default : ℕ) (rows : List Row) (reader : ReaderOptions) (buffer piece : ℕ) → Some reader ≡ reader_in default rows
    → Some buffer ≡ number_read 4 1048576 8192 (first_of (codes "buffer") rows) → Some piece ≡ number_read 1 1048576 4096 (first_of (codes "piece") rows)
    → stream_in default rows ≡ option_map (stream_with reader buffer piece) (files_read (unwrap_or (all_of (codes "index") rows) []))
unfolding stream_in
to_files default rows reader buffer piece h1 h2 h3 =
    bound (with_reader rows) _ reader h1 ∙ bound (with_buffer rows reader) _ buffer h2 ∙ bound (with_piece rows reader buffer) _ piece h3

-- what `clap` found is what the words ask for
pub asked_found : (f : List Row → Option Asked) (a b : App) → a ≡ b → (words : List Text) (rows : List Row) → matched_in a words ≡ Some rows
    → (r : Result Command Refusal) → Gives (f rows) r → Gives (option_and_then f (matched_in b words)) r
asked_found f a b same words rows found r gives =
    subst (λ (o : Option Asked). Gives o r) (sym (ap (option_and_then f) (ap (λ (x : App). matched_in x words) (sym same) ∙ found))) gives

pub asked_none : (f : List Row → Option Asked) (a b : App) → a ≡ b → (words : List Text) (e : Refusal) → (e ≡ Usage → matched_in a words ≡ None)
    → Gives (option_and_then f (matched_in b words)) (Err e)
asked_none f a b same words e none usage = ap (option_and_then f) (ap (λ (x : App). matched_in x words) (sym same) ∙ none usage)
