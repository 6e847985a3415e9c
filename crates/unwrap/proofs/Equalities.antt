-- The `==` of options of readers decides whether they are the same, where that of encodings does.
use Rattle.std.proofs.Common.{◌≡◌, Bool, ◌&&◌, nat_eq, Option, Some, None, refl, sym, ap}
use Rattle.std.proofs.Math.Bool.{beq}
use Rattle.std.proofs.lemmas.Bool.{true≢false}
use Rattle.std.proofs.lemmas.Bool.Decides.{Decides-and, Decides-eqb}
use Rattle.std.specs.Bool.{Decides}
use Rattle.std.specs.Cmp.{booleans_Decides}
use Rattle.std.specs.Option.{is_some, option_eq, unwrap_or}
use Rattle.enc_front.specs.declared.encoding.Encoding.{Encoding}
use Rattle.unwrap.specs.declared.command_line.options.ReaderOptions.{ReaderOptions}

module _ {T : Type 0} (eq : T → T → Bool) (decides : (x y : T) → Decides (eq x y) (x ≡ y)) where
  option_decides : (x y : Option T) → Decides (option_eq eq x y) (x ≡ y)
  option_decides None None = (λ _. refl, λ _. refl)
  option_decides None (Some y) = (λ t. absurd (true≢false (sym t)), λ e. absurd (true≢false (sym (ap is_some e))))
  option_decides (Some x) None = (λ t. absurd (true≢false (sym t)), λ e. absurd (true≢false (ap is_some e)))
  option_decides (Some x) (Some y) = (λ t. ap (λ z. Some z) ((decides x y).0 t), λ e. (decides x y).1 (ap (λ o. unwrap_or o x) e))

module _ (eq : Encoding → Encoding → Bool) (decides : (x y : Encoding) → Decides (eq x y) (x ≡ y)) where
  pub options_decide : (x y : ReaderOptions) → Decides (option_eq eq x.encoding y.encoding && (beq x.utf8_passthru y.utf8_passthru && (beq x.strip_bom y.strip_bom && (beq x.bom_override y.bom_override && (beq x.bom_sniffing y.bom_sniffing && nat_eq x.limit y.limit))))) (x ≡ y)
  options_decide x y =
      let d5 = Decides-and (beq x.bom_sniffing y.bom_sniffing) (nat_eq x.limit y.limit) (booleans_Decides x.bom_sniffing y.bom_sniffing) (Decides-eqb x.limit y.limit) in
      let d4 = Decides-and (beq x.bom_override y.bom_override) _ (booleans_Decides x.bom_override y.bom_override) d5 in
      let d3 = Decides-and (beq x.strip_bom y.strip_bom) _ (booleans_Decides x.strip_bom y.strip_bom) d4 in
      let d2 = Decides-and (beq x.utf8_passthru y.utf8_passthru) _ (booleans_Decides x.utf8_passthru y.utf8_passthru) d3 in
      let d1 = Decides-and (option_eq eq x.encoding y.encoding) _ (option_decides eq decides x.encoding y.encoding) d2 in (
        λ t. let p = d1.0 t in λ i. record { encoding = p.0 i; utf8_passthru = p.1.0 i; strip_bom = p.1.1.0 i; bom_override = p.1.1.1.0 i; bom_sniffing = p.1.1.1.1.0 i; limit = p.1.1.1.1.1 i },
        λ e. d1.1 (ap (λ o. o.encoding) e, (ap (λ o. o.utf8_passthru) e, (ap (λ o. o.strip_bom) e, (ap (λ o. o.bom_override) e, (ap (λ o. o.bom_sniffing) e, ap (λ o. o.limit) e))))),
      )
