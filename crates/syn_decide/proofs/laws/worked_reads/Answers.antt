use Rattle.std.proofs.Common.{refl}
use Rattle.syn_decide.proofs.laws.worked_reads.Goals as goal

pub returns-clause-answers : goal.returns-clause-answers
returns-clause-answers c = record { done = refl; no_room = refl; no_gap = refl; least_gap = refl; differs = refl; reach = refl; wide = refl; last_row = refl; not_wide = refl; hit = refl; busy = refl; busy_inside = refl; eight_leaves = refl }

pub returns-clause-loads : goal.returns-clause-loads
returns-clause-loads c = record { start = refl; first_fan_in = refl; second_fan_in = refl; first_key = refl; root_key = refl; first_count = refl; behind_a_hint = refl; behind_a_missed_hint = refl; second_count = refl }

pub returns-clause-unfit : goal.returns-clause-unfit
returns-clause-unfit c = record { other_node = refl; key_before_row = refl; keys_not_rising = refl; hint_before_keys = refl; key_of_no_row = refl; key_of_another_pair = refl; key_of_another_node = refl; key_not_right_behind = refl; hint_behind_count = refl; behind_the_answer = refl; circle = refl }

pub returns-clause-further : goal.returns-clause-further
returns-clause-further c = record { no_gain = refl; zero_gain = refl; own_pin = refl; high_hint = refl; other_hint = refl; leaf_hint = refl; free_fan_in = refl; unmet_leaf = refl; again = refl; root_takes_last = refl }
