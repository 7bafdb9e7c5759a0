-- Any pair of results that the `ensures` of a public function allows is equal, each by the one law `same`. The checker writes `ended`, the function's
-- signature, and `Learnt`, what a caller learns from its `ensures`. `.ci/functions --check` asks a line for each public function. Assumes nothing.
use Rattle.commons.proofs.OneResult.{OneResult, same, only, ◌and◌, past, first}
use Rattle.peatcloak.proofs as crate
use Rattle.peatcloak.specs.contracts as promised

-- ---- src/lib.rt
pub peatcloak_version : OneResult promised.peatcloak_version.ended crate.peatcloak_version.Reads.Learnt
peatcloak_version κs a x y = same and only same

pub peatcloak_do_bet : OneResult promised.peatcloak_do_bet.ended crate.peatcloak_do_bet.Reads.Learnt
peatcloak_do_bet κs a x y = same and same and only (first same)

pub peatcloak_fold : OneResult promised.peatcloak_fold.ended crate.peatcloak_fold.Reads.Learnt
peatcloak_fold κs a x y = same and same and only (first same)

pub peatcloak_advance-round : OneResult promised.peatcloak_advance_round.ended crate.peatcloak_advance_round.Reads.Learnt
peatcloak_advance-round κs a x y = same and same and only (first same)

pub peatcloak_complete : OneResult promised.peatcloak_complete.ended crate.peatcloak_complete.Reads.Learnt
peatcloak_complete κs a x y = same and same and only (first same)

pub peatcloak_award : OneResult promised.peatcloak_award.ended crate.peatcloak_award.Reads.Learnt
peatcloak_award κs a x y = same and same and only (first same)

-- ---- src/asking.rt
pub peatcloak_player_reward : OneResult promised.asking.peatcloak_player_reward.ended crate.asking.peatcloak_player_reward.Reads.Learnt
peatcloak_player_reward κs a x y = same and past (past (past (only same)))

pub peatcloak_queries : OneResult promised.asking.peatcloak_queries.ended crate.asking.peatcloak_queries.Reads.Learnt
peatcloak_queries κs a x y = same and past (past (past (same and only same)))

-- ---- src/building.rt
pub peatcloak_build : OneResult promised.building.peatcloak_build.ended crate.building.peatcloak_build.Reads.Learnt
peatcloak_build κs a x y = same and same and only (first same)

-- ---- src/playing.rt
pub peatcloak_play : OneResult promised.playing.peatcloak_play.ended crate.playing.peatcloak_play.Reads.Learnt
peatcloak_play κs a x y = same and past (only same)

pub peatcloak_play-table : OneResult promised.playing.peatcloak_play_table.ended crate.playing.peatcloak_play_table.Reads.Learnt
peatcloak_play-table κs a x y = same and same and only (first same)

-- ---- src/settling.rt
pub peatcloak_settle : OneResult promised.settling.peatcloak_settle.ended crate.settling.peatcloak_settle.Reads.Learnt
peatcloak_settle κs a x y = same and same and same and past (only (first same))

-- ---- src/seat_calls.rt
pub peatcloak_seats-new : OneResult promised.seat_calls.peatcloak_seats_new.ended crate.seat_calls.peatcloak_seats_new.Reads.Learnt
peatcloak_seats-new κs a x y = only same

pub peatcloak_seats-enable : OneResult promised.seat_calls.peatcloak_seats_enable.ended crate.seat_calls.peatcloak_seats_enable.Reads.Learnt
peatcloak_seats-enable κs a x y = only same

pub peatcloak_seats-disable : OneResult promised.seat_calls.peatcloak_seats_disable.ended crate.seat_calls.peatcloak_seats_disable.Reads.Learnt
peatcloak_seats-disable κs a x y = only same

pub peatcloak_seats-get : OneResult promised.seat_calls.peatcloak_seats_get.ended crate.seat_calls.peatcloak_seats_get.Reads.Learnt
peatcloak_seats-get κs a x y = only same

pub peatcloak_seats-count : OneResult promised.seat_calls.peatcloak_seats_count.ended crate.seat_calls.peatcloak_seats_count.Reads.Learnt
peatcloak_seats-count κs a x y = only same

pub peatcloak_seats-empty : OneResult promised.seat_calls.peatcloak_seats_empty.ended crate.seat_calls.peatcloak_seats_empty.Reads.Learnt
peatcloak_seats-empty κs a x y = only same

pub peatcloak_seats-next : OneResult promised.seat_calls.peatcloak_seats_next.ended crate.seat_calls.peatcloak_seats_next.Reads.Learnt
peatcloak_seats-next κs a x y = only same

pub peatcloak_seats_or : OneResult promised.seat_calls.peatcloak_seats_or.ended crate.seat_calls.peatcloak_seats_or.Reads.Learnt
peatcloak_seats_or κs a x y = only same

pub peatcloak_seats-and : OneResult promised.seat_calls.peatcloak_seats_and.ended crate.seat_calls.peatcloak_seats_and.Reads.Learnt
peatcloak_seats-and κs a x y = only same

-- ---- src/round_calls.rt
pub peatcloak_round-new : OneResult promised.round_calls.peatcloak_round_new.ended crate.round_calls.peatcloak_round_new.Reads.Learnt
peatcloak_round-new κs a x y = same and same and only (first same)

pub peatcloak_round-new-with-bets : OneResult promised.round_calls.peatcloak_round_new_with_bets.ended crate.round_calls.peatcloak_round_new_with_bets.Reads.Learnt
peatcloak_round-new-with-bets κs a x y = same and same and only (first same)

pub peatcloak_round-advance_action : OneResult promised.round_calls.peatcloak_round_advance_action.ended crate.round_calls.peatcloak_round_advance_action.Reads.Learnt
peatcloak_round-advance_action κs a x y = same and same and only (first same)

pub peatcloak_round_do_bet : OneResult promised.round_calls.peatcloak_round_do_bet.ended crate.round_calls.peatcloak_round_do_bet.Reads.Learnt
peatcloak_round_do_bet κs a x y = same and same and only (first same)

pub peatcloak_round_queries : OneResult promised.round_calls.peatcloak_round_queries.ended crate.round_calls.peatcloak_round_queries.Reads.Learnt
peatcloak_round_queries κs a x y = same and past (past (same and only same))

-- ---- src/journal_calls.rt
pub peatcloak_put-line : OneResult promised.journal_calls.peatcloak_put_line.ended crate.journal_calls.peatcloak_put_line.Reads.Learnt
peatcloak_put-line κs a x y = same and same and past (past (past (only same)))

pub peatcloak_write_hand : OneResult promised.journal_calls.peatcloak_write_hand.ended crate.journal_calls.peatcloak_write_hand.Reads.Learnt
peatcloak_write_hand κs a x y = same and past (past (same and only same))

pub peatcloak_write_block : OneResult promised.journal_calls.peatcloak_write_block.ended crate.journal_calls.peatcloak_write_block.Reads.Learnt
peatcloak_write_block κs a x y = same and past (past (past (same and only same)))

-- ---- src/journal_reads.rt
pub peatcloak_read-block : OneResult promised.journal_reads.peatcloak_read_block.ended crate.journal_reads.peatcloak_read_block.Reads.Learnt
peatcloak_read-block κs a x y = same and past (only same)

pub peatcloak_read-hand : OneResult promised.journal_reads.peatcloak_read_hand.ended crate.journal_reads.peatcloak_read_hand.Reads.Learnt
peatcloak_read-hand κs a x y = same and past (only same)

pub peatcloak_line-at : OneResult promised.journal_reads.peatcloak_line_at.ended crate.journal_reads.peatcloak_line_at.Reads.Learnt
peatcloak_line-at κs a x y = same and past (past (same and only same))

-- ---- src/journal_replay.rt
pub peatcloak_replay_hand : OneResult promised.journal_replay.peatcloak_replay_hand.ended crate.journal_replay.peatcloak_replay_hand.Reads.Learnt
peatcloak_replay_hand κs a x y = same and same and same and past (only (first same))
