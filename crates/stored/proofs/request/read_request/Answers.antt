-- `stored::request::read_request` meets its contract. Assumes nothing.
use Rattle.rules.proofs.Kit.{ℕ, ◌≡◌, refl, ap, ◌∙◌, List, [], ◌∷◌, arith}
use Rattle.rules.specs.{Records.input_of, Stored.form_faults, Stored.read_request_of}
use Rattle.rules.proofs.Faults.{exit_answer, passed}
use Rattle.stored_layout.proofs.{Passing.Passed, Forms.form-passed, Lengths.request_length}
use Rattle.stored.proofs.{Reading.request_read}
use Rattle.stored.proofs.request.read_request.Goals as goal

-- the form passes
field : (form : List ℕ) → form_faults (3 ∷ []) form ≡ [] → Passed 3 form
field form none = (form-passed 3 [] form refl none).0

pub returns-in_err-lay_out : goal.returns-in_err-lay_out
unfolding read_request_of
returns-in_err-lay_out c = exit_answer _ _ _ _ _ c.from_residual.ensures.1 c.in_err-lay_out.ensures

pub front_body-requires : goal.front_body-requires
front_body-requires c = (field c.args.form.now (passed _ c.in_ok-lay_out.ensures)).whole

pub input_of-requires : goal.input_of-requires
input_of-requires c =
    rw c.front_body.ensures (omega (arith, request_length c.args.form.now (field c.args.form.now (passed _ c.in_ok-lay_out.ensures))))

pub returns : goal.returns
returns c = request_read _ (passed _ c.in_ok-lay_out.ensures) (c.input_of.ensures ∙ ap input_of c.front_body.ensures)
