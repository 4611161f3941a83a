-- `packing::checks::checked` meets its contract. Assumes nothing.
use Rattle.std.proofs.Common.{not, ap}
use mathlib.Core.Path.{◌∙◌}
use native.Mathlib.Omega.{arith}
use Rattle.checking.proofs.Laws.{blank_still}
use Rattle.packing.proofs.Later.{checked_ranged, checked_turns, checked_4, checked_5, checked_6, checked_six, checked_points, kept_same, kept_on}
use Rattle.packing.proofs.checks.checked.Goals as goal

pub is_distinct-requires : goal.is_distinct-requires
is_distinct-requires c = (checked_ranged _ c.requires.0 c.requires.1, c.requires.2)

pub returns-then-not-is_distinct : goal.returns-then-not-is_distinct
returns-then-not-is_distinct c =
    record {
      packs_later = checked_4 _ c.requires.0 c.requires.1 _ c.is_distinct.ensures.decides (ap not c.if-not-is_distinct.true) _;
      kept = kept_same _ _ _ c.is_distinct.ensures.work_unchanged;
    }

pub joined_points-requires : goal.joined_points-requires
joined_points-requires c = (checked_turns _ c.requires.0 c.requires.1 _ c.is_distinct.ensures.decides (ap not c.if-not-is_distinct.false), c.requires.0.half, blank_still _ _ _ c.requires.2 c.is_distinct.ensures.work_unchanged)

pub returns-in_default : goal.returns-in_default
returns-in_default c =
    record {
      packs_later = checked_5 _ c.requires.0 c.requires.1 _ c.is_distinct.ensures.decides (ap not c.if-not-is_distinct.false) _ c.joined_points.ensures.by_index c.in_default.is _;
      kept = kept_same _ _ _ (c.joined_points.ensures.work_unchanged ∙ c.is_distinct.ensures.work_unchanged);
    }

pub returns-then-n-count_marks : goal.returns-then-n-count_marks
returns-then-n-count_marks c =
    record {
      packs_later = checked_6 _ c.requires.0 c.requires.1 _ c.is_distinct.ensures.decides (ap not c.if-not-is_distinct.false) _ c.joined_points.ensures.by_index _ c.in-Some.is _ c.count_marks.ensures.by_index (omega (arith, c.if-n-count_marks.true)) _;
      kept = kept_same _ _ _ (c.joined_points.ensures.work_unchanged ∙ c.is_distinct.ensures.work_unchanged);
    }

pub finish-requires : goal.finish-requires
finish-requires c = (
  checked_six _ c.requires.0 c.requires.1 _ c.is_distinct.ensures.decides (ap not c.if-not-is_distinct.false) _ c.joined_points.ensures.by_index _ c.in-Some.is _ c.count_marks.ensures.by_index (omega (arith, c.if-n-count_marks.false)),
  checked_points _ c.requires.0 c.requires.1 _ c.is_distinct.ensures.decides (ap not c.if-not-is_distinct.false) _ c.joined_points.ensures.by_index _ c.in-Some.is _ c.count_marks.ensures.by_index,
  blank_still _ _ _ c.requires.2 (c.joined_points.ensures.work_unchanged ∙ c.is_distinct.ensures.work_unchanged),
  c.requires.3,
)

pub returns : goal.returns
returns c =
    record {
      packs_later = c.finish.ensures.packs_later;
      kept = kept_on _ _ _ _ (c.joined_points.ensures.work_unchanged ∙ c.is_distinct.ensures.work_unchanged) c.finish.ensures.kept;
    }
