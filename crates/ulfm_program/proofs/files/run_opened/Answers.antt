use Rattle.ulfm_program.proofs.files.run_opened.Goals as goal

pub returns-then-status-eq-INPUT_FAILED-clause-replies : goal.returns-then-status-eq-INPUT_FAILED-clause-replies
returns-then-status-eq-INPUT_FAILED-clause-replies g c = c.follow-status.ensures.replies

pub returns-then-status-eq-INPUT_FAILED-clause-cut_off : goal.returns-then-status-eq-INPUT_FAILED-clause-cut_off
returns-then-status-eq-INPUT_FAILED-clause-cut_off g c = c.follow-status.ensures.cut_off

pub returns-then-status-eq-INPUT_FAILED-clause-input_failed : goal.returns-then-status-eq-INPUT_FAILED-clause-input_failed
returns-then-status-eq-INPUT_FAILED-clause-input_failed g c = c.follow-status.ensures.input_failed

pub returns-else-status-eq-INPUT_FAILED-clause-replies : goal.returns-else-status-eq-INPUT_FAILED-clause-replies
returns-else-status-eq-INPUT_FAILED-clause-replies g c = c.follow-status.ensures.replies

pub returns-else-status-eq-INPUT_FAILED-clause-cut_off : goal.returns-else-status-eq-INPUT_FAILED-clause-cut_off
returns-else-status-eq-INPUT_FAILED-clause-cut_off g c = c.follow-status.ensures.cut_off

pub returns-else-status-eq-INPUT_FAILED-clause-input_failed : goal.returns-else-status-eq-INPUT_FAILED-clause-input_failed
returns-else-status-eq-INPUT_FAILED-clause-input_failed g c = c.follow-status.ensures.input_failed
