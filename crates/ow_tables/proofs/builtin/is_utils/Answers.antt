use Rattle.std.proofs.Common.{Some, sym, ap, ◌∙◌}
use Rattle.ow_tables.proofs.BuiltinLaws as laws
use Rattle.ow_tables.proofs.builtin.is_utils.Goals as goal

pub returns-in-None : goal.returns-in-None
returns-in-None c =
    laws.is_utils c.args.name.now c.as_str-namespace.result.now c.as_str-local.result.now _
    c.as_str-namespace.ensures.value c.as_str-namespace.ensures.name c.as_str-local.ensures.value c.as_str-local.ensures.name
    c.in-None.is c.is_utils_in.ensures

pub returns-in-Some : goal.returns-in-Some
returns-in-Some c =
    laws.no_utils c.args.name.now c.as_str-namespace.result.now c.as_str-name.result.now c.as_str-local.result.now
    c.as_str-namespace.ensures.value c.as_str-namespace.ensures.name c.as_str-local.ensures.value c.as_str-local.ensures.name
    (c.in-Some.is ∙ ap (λ a. Some a) (sym c.as_str-name.ensures.value)) c.as_str-name.ensures.name
