-- How much text a decode call writes.
use Rattle.std.proofs.Common.{◌≡◌, ℕ, zero, suc, ◌+◌, ◌-◌, ◌*◌, ◌<◌, ◌≤◌, Bool, List, [], ◌∷◌, ◌++◌, length, take, drop, refl, ap, sym, ◌∙◌, arith, append_assoc, length-append, length-drop, true}
use Rattle.std.specs.Prelude.{encode_utf8}
use Rattle.std.specs.List.{All, sum_by}
use Rattle.std.proofs.Math.Seq.{drop-append_seam, take-append_seam}
use Rattle.std.proofs.lemmas.List.Elements.{All-nil, All-cons, All-head, All-tail, All-append, All-take, All-drop}
use Rattle.std.proofs.lemmas.List.Sums.{sum_by-cons, sum_by-append}
use lib.Utf8.{encode}
use Rattle.enc_drivers.specs.declared.unit.Item.{Item}
use Rattle.enc_drivers.specs.declared.unit.Item.TheVariants as item
use Rattle.enc_drivers.specs.declared.unit.Mode.{Mode}
use Rattle.enc_drivers.specs.Resume.{Standing, Resumes, item_in, text_in}
use Rattle.enc_drivers.specs.Steps.{MayFollow}
use Rattle.enc_drivers.specs.Units.{Code, IsCode, AreBytes, item_text, text, units, IsShort}
use Rattle.enc_drivers.proofs.UnitLemmas.{units_nil, units_some, units_cover_law, text-cons, text_nil}

-- in UTF-8 the text of an item is that of its form
item_in_utf_8 : (i : Item) → item_in encode_utf8 i ≡ item_text i
unfolding encode
item_in_utf_8 (item.One scalar) = refl
item_in_utf_8 (item.Two first second) = refl
item_in_utf_8 item.Malformed = refl
item_in_utf_8 item.Silent = refl

pub text_in_utf_8 : (us : List (Item × ℕ)) → text_in encode_utf8 us ≡ text us
text_in_utf_8 [] = sym text_nil
text_in_utf_8 (u ∷ us) =
    ap (λ (l : List ℕ). l ++ text_in encode_utf8 us) (item_in_utf_8 u.0)
    ∙ (ap (λ (l : List ℕ). item_text u.0 ++ l) (text_in_utf_8 us) ∙ sym (text-cons u us))

module _ (unit : Code) (code : IsCode unit) where
  short_within : (n : ℕ) (mode : Mode) (bytes : List ℕ) → AreBytes bytes → length bytes ≤ n → All IsShort (units unit mode bytes)
  short_within n mode [] are h = rw (units_nil unit mode) (All-nil IsShort)
  short_within zero mode (x ∷ bytes) are h = absurd (omega arith)
  short_within (suc n) mode (x ∷ bytes) are h =
      let u = unit mode (x ∷ bytes) in
      let each = code.each mode (x ∷ bytes) are (omega arith) in
      let gone : length (drop u.len (x ∷ bytes)) ≡ length (x ∷ bytes) - u.len = length-drop u.len (x ∷ bytes) in
      let rest = short_within n u.next (drop u.len (x ∷ bytes)) (All-drop (λ c. c < 256) u.len (x ∷ bytes) are) (omega (arith, each.some)) in
      rw (units_some unit code mode (x ∷ bytes) are (omega arith))
      (All-cons IsShort (u.item, u.len) (units unit u.next (drop u.len (x ∷ bytes))) each.short_text rest)

  -- each unit of bytes has at most three bytes of text for each of its bytes
  pub short_units_law : (mode : Mode) (bytes : List ℕ) → AreBytes bytes → All IsShort (units unit mode bytes)
  short_units_law mode bytes are = short_within (length bytes) mode bytes are (omega arith)

abbrev bytes_of : List (Item × ℕ) → ℕ
bytes_of us = sum_by (λ (u : Item × ℕ). u.1) us

short_text : (us : List (Item × ℕ)) → All IsShort us → length (text us) ≤ 3 * bytes_of us
short_text [] each = rw text_nil (omega arith)
short_text (u ∷ us) each =
    let rest = short_text us (All-tail IsShort u us each) in
    let here = All-head IsShort u us each in
    rw (text-cons u us, length-append (item_text u.0) (text us), sum_by-cons (λ (v : Item × ℕ). v.1) u us) (omega arith)

-- what a call has decoded is at most three bytes for each byte that it used up
pub short_call_law : (unit : Code) → IsCode unit → (last : Bool) (a b : Standing) (src : List ℕ) (n : ℕ) (decoded malformed : List (Item × ℕ))
    → AreBytes a.held → AreBytes src → n ≤ length src → Resumes unit last a b src n decoded malformed
    → length (text decoded) + 3 * (bytes_of malformed + length b.held) ≤ 3 * (length a.held + n)
short_call_law unit code last a b src n decoded malformed are are_src within call =
    let whole = a.held ++ (src ++ []) in
    let rest = b.held ++ (drop n src ++ []) in
    let later = units unit b.mode rest in
    let are_end : AreBytes [] = All-nil (λ x. x < 256) in
    let are_whole : AreBytes whole = All-append (λ x. x < 256) a.held (src ++ []) are (All-append (λ x. x < 256) src [] are_src are_end) in
    let are_held : AreBytes b.held =
    let used : AreBytes (a.held ++ take n src) = All-append (λ x. x < 256) a.held (take n src) are (All-take (λ x. x < 256) n src are_src) in
    rw (← drop-append_seam call.gone b.held) (All-drop (λ x. x < 256) (length call.gone) (call.gone ++ b.held) (rw call.held at used)) in
    let are_rest : AreBytes rest =
    All-append (λ x. x < 256) b.held (drop n src ++ []) are_held (All-append (λ x. x < 256) (drop n src) [] (All-drop (λ x. x < 256) n src are_src) are_end) in
    let all : units unit a.mode whole ≡ decoded ++ (malformed ++ later) = call.equation [] (record { bytes = are_end; none = λ e. refl }) in
    let sum : bytes_of (units unit a.mode whole) ≡ length whole = units_cover_law unit code a.mode whole are_whole in
    let parts : bytes_of (units unit a.mode whole) ≡ bytes_of decoded + (bytes_of malformed + length rest) =
    ap bytes_of all
    ∙ (sum_by-append (λ (v : Item × ℕ). v.1) decoded (malformed ++ later)
    ∙ ap (λ k. bytes_of decoded + k) (sum_by-append (λ (v : Item × ℕ). v.1) malformed later ∙ ap (λ k. bytes_of malformed + k) (units_cover_law unit code b.mode rest are_rest))) in
    let each : All IsShort decoded =
    let long : All IsShort (decoded ++ (malformed ++ later)) = rw all at (short_units_law unit code a.mode whole are_whole) in
    rw (← take-append_seam decoded (malformed ++ later)) (All-take IsShort (length decoded) (decoded ++ (malformed ++ later)) long) in
    let short = short_text decoded each in
    omega (arith, length-append a.held (src ++ []), length-append src [], length-append b.held (drop n src ++ []), length-append (drop n src) [], length-drop n src)

-- a call, and one on the rest of its piece and the next piece
pub joined_calls_law : (unit : Code) (start last : Bool) (a b c : Standing) (src next : List ℕ) (n k : ℕ) (one wrong two wrong_too : List (Item × ℕ))
    → Resumes unit start a b src n one wrong → Resumes unit last b c (drop n src ++ next) k two wrong_too → AreBytes next → (start ≡ true → (last ≡ true) × (next ≡ []))
    → (more : List ℕ) → MayFollow last more
    → units unit a.mode (a.held ++ (src ++ (next ++ more)))
    ≡ (one ++ wrong) ++ ((two ++ wrong_too) ++ units unit c.mode (c.held ++ (drop k (drop n src ++ next) ++ more)))
joined_calls_law unit start last a b c src next n k one wrong two wrong_too first second are ends more follows =
    let rest = drop n src in
    let end = units unit c.mode (c.held ++ (drop k (rest ++ next) ++ more)) in
    let later : MayFollow start (next ++ more) = record {
      bytes = All-append (λ x. x < 256) next more are follows.bytes;
      none = λ e. let both = ends e in ap (λ (l : List ℕ). l ++ more) both.1 ∙ follows.none both.0;
    } in
    first.equation (next ++ more) later
    ∙ (ap (λ (l : List (Item × ℕ)). one ++ (wrong ++ l))
    (ap (λ (l : List ℕ). units unit b.mode (b.held ++ l)) (sym (append_assoc rest next more)) ∙ second.equation more follows ∙ sym (append_assoc two wrong_too end))
    ∙ sym (append_assoc one wrong ((two ++ wrong_too) ++ end)))
