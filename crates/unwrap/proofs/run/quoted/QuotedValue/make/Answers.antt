use Rattle.std.proofs.Common.{◌≡◌, ℕ, List, subst, sym, refl, None, Ok, IfOk, IfErr}
use Rattle.unwrap.proofs.Delivered.{makes, makes_none, makes_tables, makes_unread, read_tables, read_unread}
use Rattle.unwrap.specs.Delivers.{IsRefused, Refuses}
use Rattle.unwrap.specs.Status.{IsBeforeSource, TellsTable}
use Rattle.unwrap.specs.Asked.{quoted_view}
use Rattle.unwrap.specs.Quoted.{quoted_value}
use Rattle.unwrap.proofs.run.quoted.QuotedValue.make.Goals as goal

pub returns-in-Err : goal.returns-in-Err
returns-in-Err g c =
    record { tables = subst (TellsTable None) (sym c.from.ensures) (read_tables c.in-Err.error); unread = λ h. read_unread _ c.in-Err.error (subst IsBeforeSource c.from.ensures h); made = subst (IsRefused (quoted_value c.args.self.now.encodes (quoted_view c.args.self.now.options)) c.args.self.now.options.limit _ _ _ _) (sym c.from.ensures) (makes_none (quoted_value c.args.self.now.encodes (quoted_view c.args.self.now.options)) c.args.self.now.options.limit _ _ _ _ c.in-Err.error c.in-Err.ensures.errors) }

pub returns : goal.returns
returns g c =
    let text = subst (λ (s : List ℕ). IfOk c.of.result (λ made. quoted_value c.args.self.now.encodes (quoted_view c.args.self.now.options) s ≡ Ok made.items)) c.as_slice.ensures.value c.of.ensures.value in
    let error = subst (λ (s : List ℕ). IfErr c.of.result (Refuses (quoted_value c.args.self.now.encodes (quoted_view c.args.self.now.options) s))) c.as_slice.ensures.value c.of.ensures.error in
    record {
      tables = makes_tables None (quoted_value c.args.self.now.encodes (quoted_view c.args.self.now.options)) c.in-Ok.bytes.items c.of.result refl error;
      unread = makes_unread _ (quoted_value c.args.self.now.encodes (quoted_view c.args.self.now.options)) c.in-Ok.bytes.items c.of.result error;
      made = makes (quoted_value c.args.self.now.encodes (quoted_view c.args.self.now.options)) c.args.self.now.options.limit _ _ _ _ c.in-Ok.bytes.items c.of.result c.in-Ok.ensures.moved c.in-Ok.ensures.end c.in-Ok.ensures.within c.in-Ok.ensures.counted text error;
    }
