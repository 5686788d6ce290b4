use Rattle.std.proofs.Common.{Some, sym, ap, ◌∙◌}
use Rattle.ow_tables.proofs.BuiltinLaws as laws
use Rattle.ow_tables.proofs.builtin.is_echo.Goals as goal

pub returns-in-Some : goal.returns-in-Some
returns-in-Some c =
    laws.is_echo c.args.name.now c.as_str-namespace.result.now c.as_str.result.now c.as_str-local.result.now _
    c.as_str-namespace.ensures.value c.as_str-namespace.ensures.name c.as_str-local.ensures.value c.as_str-local.ensures.name
    (c.in-Some.is ∙ ap (λ a. Some a) (sym c.as_str.ensures.value)) c.as_str.ensures.name c.is_echo_in.ensures

pub returns-in-None : goal.returns-in-None
returns-in-None c =
    laws.no_echo c.args.name.now c.as_str-namespace.result.now c.as_str-local.result.now
    c.as_str-namespace.ensures.value c.as_str-namespace.ensures.name c.as_str-local.ensures.value c.as_str-local.ensures.name
    c.in-None.is
