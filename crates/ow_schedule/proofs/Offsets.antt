-- The two UTC offsets of a POSIX rule.
use Rattle.std.proofs.Common.{◌≡◌, ◌⊎◌, inl, inr, refl, ap, ℕ, List, true, false, ℤ, Option, Some, None, if◌then◌else◌}
use Rattle.jiff.specs.Types.{TimeZone, Posix}
use Rattle.jiff.specs.Placed.{IsPosixZone}
use Rattle.jiff.specs.Words.{read_whole, tz_view}
use Rattle.ow_schedule.specs.Reading.{IsRule}
use Rattle.jiff_core.specs.declared.offset.Offset.{Offset}
use Rattle.jiff_tz.specs.declared.posix.Dst.{Dst}
use Rattle.jiff_tz.specs.declared.posix.TimeZone.{TimeZone as Rule}
use Rattle.jiff_tz.specs.PosixRule.{match_some, dst_at_by, in_window, utc_window}
use Rattle.jiff_tz.specs.Year.{year_of_nanos}
use Rattle.jiff_tz.specs.Zone.{offset_at}
use Rattle.ow_schedule.specs.Skips.{HasOffsets, daylight_offset}

by_rule : (std : Offset) (dst : Option Dst) (n : ℤ)
    → (match_some (dst_at_by std dst n) std (λ d. d.offset) ≡ std) ⊎ (match_some (dst_at_by std dst n) std (λ d. d.offset) ≡ match_some dst std (λ d. d.offset))
by_rule std None n = inl refl
by_rule std (Some d) n =
    elim (in_window (utc_window d (year_of_nanos n) std) n)
    as (λ b. (match_some (if b then Some d else None) std (λ x. x.offset) ≡ std) ⊎ (match_some (if b then Some d else None) std (λ x. x.offset) ≡ d.offset))
    [ true ↦ inr refl | false ↦ inl refl ]

-- a POSIX rule has these two offsets
pub rule_offsets : (rule : Rule) → HasOffsets (Posix rule) rule.std_offset.seconds (daylight_offset rule).seconds
unfolding offset_at
rule_offsets rule n =
    elim (by_rule rule.std_offset rule.dst n) [
      | inl e ↦ inl (ap (λ o. o.seconds) e)
      | inr e ↦ inr (ap (λ o. o.seconds) e)
    ]

-- a zone that is the POSIX rule of a text
pub reads_rule : (text : List ℕ) (zone : TimeZone) → IsPosixZone text zone → IsRule (read_whole text) zone
reads_rule text (Posix rule) is = record { rule = tz_view rule; reads = is; has = refl }
reads_rule text _ is = absurd is
