-- `stored::catalog::read_stored` meets its contract. Assumes nothing.
use Rattle.rules.proofs.Kit.{ℕ, ◌≡◌, refl, ap, ◌∙◌, List, arith, length}
use Rattle.rules.proofs.Faults.{passed}
use Rattle.rules.specs.Stored.{after_of, body_of, stored_bank, read_stored_of, read_stored_buffer}
use Rattle.stored_layout.proofs.{Buffers.stays, Buffers.exit_stays, Openings.opening}
use Rattle.stored.proofs.{Reading.catalog_fields, Reading.reading_refused, Reading.reading_short, Reading.reading_none, Reading.stored_read}
use Rattle.stored.proofs.catalog.read_stored.Goals as goal

-- the models' bytes, as the code took them
models : {a b : List ℕ} (form : List ℕ) → b ≡ body_of a → a ≡ after_of form → b ≡ stored_bank form
models form e rest = e ∙ ap body_of rest

pub returns-in_err-lay_out : goal.returns-in_err-lay_out
unfolding read_stored_of read_stored_buffer
returns-in_err-lay_out c = exit_stays _ _ _ _ _ _ _ c.from_residual.ensures.1 (reading_refused _ _ _ c.in_err-lay_out.ensures)

pub after_front-requires : goal.after_front-requires
after_front-requires c = (catalog_fields c.args.form.now (passed _ c.in_ok-lay_out.ensures)).policy.whole

pub front_body-bank-requires : goal.front_body-bank-requires
front_body-bank-requires c = rw c.after_front.ensures (catalog_fields c.args.form.now (passed _ c.in_ok-lay_out.ensures)).bank.whole

pub returns-then-buffer-bank : goal.returns-then-buffer-bank
unfolding read_stored_of read_stored_buffer
returns-then-buffer-bank c =
    stays _ _ _ _ refl
    (reading_short _ _ (passed _ c.in_ok-lay_out.ensures) (omega (arith, ap length (models _ c.front_body-bank.ensures c.after_front.ensures), c.if-buffer-bank.true)))

pub policy_in-requires : goal.policy_in-requires
policy_in-requires c = opening _ _ (catalog_fields c.args.form.now (passed _ c.in_ok-lay_out.ensures))

pub returns : goal.returns
returns c =
    stored_read c.args.form.now _
    (reading_none _ _ (passed _ c.in_ok-lay_out.ensures) (omega (arith, ap length (models _ c.front_body-bank.ensures c.after_front.ensures), c.if-buffer-bank.false)))
    c.policy_in.ensures
    (models _ c.front_body-bank.ensures c.after_front.ensures)
    c.put_bytes.ensures
