-- The laws of counting and searching below a bound in one place: those of Search, Counts and Rank.
-- Assumes nothing.
pub use Rattle.count.proofs.Search.{find_le, find_has, find_not, find_at_most, find_is, find_none, find_same}
pub use Rattle.count.proofs.Search.{all_has, all_from, all_fails, any_has, any_from, any_none}
pub use Rattle.count.proofs.Counts.{count_zero, count_yes, count_no, count_le, count_mono, count_before, count_stays, count_next, count_same, count_implies}
pub use Rattle.count.proofs.Counts.{count_split, count_none, count_all, count_not, count_one_less, count_injection, injective_onto}
pub use Rattle.count.proofs.Rank.{nth_has, nth_count, nth_below, nth_none, nth_le, nth_of_count, nth_mono, nth_same}
