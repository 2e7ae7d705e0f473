-- Literal bytes beyond document 01's example, with a different value wherever two could be exchanged. Assumes nothing.
use Rattle.rules.proofs.Kit.{ℕ, List, [], ◌∷◌, ◌++◌, negsuc}
use Rattle.rules.specs.{declared.records.KernelModel.KernelModel, declared.records.KernelInput.KernelInput}
use Rattle.rules.specs.{declared.records.PolicySnapshot.PolicySnapshot}
use Rattle.rules.specs.declared.records.Rounding.{Rounding}

-- a different byte in every place of a record, and what they say
abbrev pub model_bytes47 : List ℕ
model_bytes47 =
    1 ∷ 2 ∷ 3 ∷ 4 ∷ 5 ∷ 6 ∷ 7 ∷ 8 ∷ 9 ∷ 10 ∷ 11 ∷ 12 ∷ 13 ∷ 14 ∷ 15 ∷ 16
    ∷ 17 ∷ 18 ∷ 19 ∷ 20 ∷ 21 ∷ 22 ∷ 23 ∷ 24 ∷ 25 ∷ 26 ∷ 27 ∷ 28 ∷ 29 ∷ 30 ∷ 31 ∷ 32
    ∷ 33 ∷ 34 ∷ 35 ∷ 36 ∷ 37 ∷ 38 ∷ 39 ∷ 40 ∷ 41 ∷ 42 ∷ 43 ∷ 44 ∷ 45 ∷ 46 ∷ 47 ∷ []

abbrev pub model_said : KernelModel
model_said =
    record {
      model_id = 67305985;
      provider_id = 1541;
      quality_bps = 2055;
      risk_ceiling_bps = 2569;
      enabled = 11;
      p95_latency_ms = 252579084;
      capabilities = 1663540288323457296;
      region_mask = 2242261671028070680;
      input_cost_microunits_per_million_tokens = 2820983053732684064;
      output_cost_microunits_per_million_tokens = 3399704436437297448;
    }

-- a different byte in every place of a request; its value is negative
abbrev pub request_bytes70 : List ℕ
request_bytes70 =
    101 ∷ 102 ∷ 103 ∷ 104 ∷ 105 ∷ 106 ∷ 107 ∷ 108 ∷ 109 ∷ 110 ∷ 111 ∷ 112 ∷ 113 ∷ 114 ∷ 115 ∷ 116
    ∷ 117 ∷ 118 ∷ 119 ∷ 120 ∷ 121 ∷ 122 ∷ 123 ∷ 124 ∷ 125 ∷ 126 ∷ 127 ∷ 128 ∷ 129 ∷ 130 ∷ 131 ∷ 132
    ∷ 133 ∷ 134 ∷ 135 ∷ 136 ∷ 137 ∷ 138 ∷ 139 ∷ 140 ∷ 141 ∷ 142 ∷ 143 ∷ 144 ∷ 145 ∷ 146 ∷ 147 ∷ 148
    ∷ 149 ∷ 150 ∷ 151 ∷ 152 ∷ 153 ∷ 154 ∷ 155 ∷ 156 ∷ 157 ∷ 158 ∷ 159 ∷ 160 ∷ 161 ∷ 162 ∷ 163 ∷ 164
    ∷ 165 ∷ 166 ∷ 167 ∷ 168 ∷ 169 ∷ 170 ∷ []

abbrev pub request_said : KernelInput
request_said =
    record {
      request_sequence = 7812454979559974501;
      requested_model_id = 1886350957;
      input_tokens = 1953722993;
      output_tokens = 2021095029;
      business_value_microunits = negsuc 9187485637388043654;
      budget_limit_microunits = 9837979819026121345;
      risk_bps = 35465;
      confidence_bps = 35979;
      minimum_quality_bps = 36493;
      max_p95_latency_ms = 2459013263;
      required_capabilities = 11140102930111501459;
      allowed_provider_mask = 11718824312816114843;
      required_region_mask = 12297545695520728227;
    }

-- a different byte in every place of a policy, of 30 bytes and of 35, and what they say: with how it rounds and its allowance
abbrev pub policy_bytes30 : List ℕ
policy_bytes30 =
    201 ∷ 202 ∷ 203 ∷ 204 ∷ 205 ∷ 206 ∷ 207 ∷ 208 ∷ 209 ∷ 210 ∷ 211 ∷ 212 ∷ 213 ∷ 214 ∷ 215 ∷ 216
    ∷ 217 ∷ 218 ∷ 219 ∷ 220 ∷ 221 ∷ 222 ∷ 223 ∷ 224 ∷ 225 ∷ 226 ∷ 227 ∷ 228 ∷ 229 ∷ 230 ∷ []

abbrev pub policy_bytes35 : List ℕ
policy_bytes35 = policy_bytes30 ++ (1 ∷ 231 ∷ 232 ∷ 233 ∷ 234 ∷ [])

abbrev pub policy_said : Rounding → ℕ → PolicySnapshot
policy_said rounding allowance =
    record {
      policy_epoch = 15046472263367641801;
      catalog_epoch = 15625193646072255185;
      hard_risk_limit_bps = 56025;
      minimum_confidence_bps = 56539;
      risk_penalty_multiplier_bps = 57053;
      latency_penalty_microunits_per_ms = 16637956065805328607;
      rounding = rounding;
      latency_allowance_ms = allowance;
    }

-- four records, one for each verdict, whose terms pass 2 ^ 64
abbrev pub four_models : List ℕ
four_models =
    17 ∷ 18 ∷ 19 ∷ 20 ∷ 6 ∷ 0 ∷ 72 ∷ 238 ∷ 81 ∷ 156 ∷ 1 ∷ 18 ∷ 0 ∷ 0 ∷ 0 ∷ 0
    ∷ 0 ∷ 0 ∷ 0 ∷ 0 ∷ 0 ∷ 0 ∷ 0 ∷ 1 ∷ 2 ∷ 3 ∷ 4 ∷ 5 ∷ 6 ∷ 7 ∷ 8 ∷ 1
    ∷ 0 ∷ 0 ∷ 0 ∷ 0 ∷ 0 ∷ 0 ∷ 0 ∷ 1 ∷ 0 ∷ 0 ∷ 0 ∷ 0 ∷ 0 ∷ 0 ∷ 0 ∷ 33
    ∷ 34 ∷ 35 ∷ 36 ∷ 5 ∷ 0 ∷ 96 ∷ 234 ∷ 80 ∷ 156 ∷ 1 ∷ 17 ∷ 0 ∷ 0 ∷ 0 ∷ 0 ∷ 0
    ∷ 0 ∷ 0 ∷ 0 ∷ 0 ∷ 0 ∷ 0 ∷ 0 ∷ 0 ∷ 0 ∷ 0 ∷ 0 ∷ 0 ∷ 0 ∷ 32 ∷ 217 ∷ 54
    ∷ 91 ∷ 189 ∷ 55 ∷ 38 ∷ 7 ∷ 0 ∷ 79 ∷ 142 ∷ 213 ∷ 205 ∷ 42 ∷ 129 ∷ 7 ∷ 0 ∷ 49 ∷ 50
    ∷ 51 ∷ 52 ∷ 4 ∷ 0 ∷ 7 ∷ 250 ∷ 79 ∷ 156 ∷ 2 ∷ 235 ∷ 39 ∷ 107 ∷ 238 ∷ 0 ∷ 0 ∷ 0
    ∷ 0 ∷ 0 ∷ 0 ∷ 0 ∷ 0 ∷ 0 ∷ 0 ∷ 0 ∷ 0 ∷ 0 ∷ 0 ∷ 0 ∷ 64 ∷ 55 ∷ 164 ∷ 46
    ∷ 74 ∷ 119 ∷ 0 ∷ 0 ∷ 0 ∷ 61 ∷ 156 ∷ 74 ∷ 103 ∷ 119 ∷ 1 ∷ 0 ∷ 0 ∷ 65 ∷ 66 ∷ 67
    ∷ 68 ∷ 3 ∷ 0 ∷ 87 ∷ 254 ∷ 78 ∷ 156 ∷ 1 ∷ 7 ∷ 40 ∷ 107 ∷ 238 ∷ 0 ∷ 0 ∷ 0 ∷ 0
    ∷ 0 ∷ 0 ∷ 0 ∷ 0 ∷ 0 ∷ 0 ∷ 0 ∷ 0 ∷ 0 ∷ 0 ∷ 0 ∷ 128 ∷ 53 ∷ 140 ∷ 165 ∷ 146
    ∷ 142 ∷ 0 ∷ 0 ∷ 0 ∷ 59 ∷ 132 ∷ 193 ∷ 175 ∷ 142 ∷ 1 ∷ 0 ∷ 0 ∷ []

-- their request and policy
abbrev pub four_request : List ℕ
four_request =
    8 ∷ 7 ∷ 6 ∷ 5 ∷ 4 ∷ 3 ∷ 2 ∷ 1 ∷ 9 ∷ 0 ∷ 0 ∷ 0 ∷ 19 ∷ 94 ∷ 208 ∷ 178
    ∷ 11 ∷ 148 ∷ 53 ∷ 119 ∷ 11 ∷ 20 ∷ 37 ∷ 54 ∷ 71 ∷ 88 ∷ 105 ∷ 122 ∷ 136 ∷ 9 ∷ 26 ∷ 43
    ∷ 60 ∷ 77 ∷ 94 ∷ 111 ∷ 77 ∷ 156 ∷ 109 ∷ 234 ∷ 5 ∷ 0 ∷ 0 ∷ 0 ∷ 0 ∷ 0 ∷ 0 ∷ 0
    ∷ 0 ∷ 0 ∷ 0 ∷ 0 ∷ 0 ∷ 0 ∷ 255 ∷ 255 ∷ 255 ∷ 255 ∷ 255 ∷ 255 ∷ 255 ∷ 255 ∷ 128 ∷ 144
    ∷ 160 ∷ 176 ∷ 192 ∷ 208 ∷ 224 ∷ 240 ∷ []

abbrev pub four_policy : List ℕ
four_policy =
    11 ∷ 0 ∷ 0 ∷ 0 ∷ 0 ∷ 0 ∷ 0 ∷ 0 ∷ 12 ∷ 0 ∷ 0 ∷ 0 ∷ 0 ∷ 0 ∷ 0 ∷ 0
    ∷ 101 ∷ 195 ∷ 7 ∷ 0 ∷ 103 ∷ 195 ∷ 68 ∷ 211 ∷ 167 ∷ 182 ∷ 9 ∷ 0 ∷ 0 ∷ 0 ∷ []

-- their explanation records
abbrev pub four_explained : List ℕ
four_explained =
    17 ∷ 18 ∷ 19 ∷ 20 ∷ 0 ∷ 0 ∷ 1 ∷ 7 ∷ 1 ∷ 2 ∷ 3 ∷ 4 ∷ 5 ∷ 6 ∷ 7 ∷ 8
    ∷ 0 ∷ 0 ∷ 0 ∷ 0 ∷ 0 ∷ 0 ∷ 0 ∷ 0 ∷ 128 ∷ 144 ∷ 160 ∷ 176 ∷ 192 ∷ 208 ∷ 224 ∷ 240
    ∷ 0 ∷ 0 ∷ 0 ∷ 0 ∷ 0 ∷ 0 ∷ 0 ∷ 0 ∷ 0 ∷ 0 ∷ 0 ∷ 0 ∷ 0 ∷ 0 ∷ 0 ∷ 0
    ∷ 0 ∷ 0 ∷ 0 ∷ 0 ∷ 0 ∷ 0 ∷ 0 ∷ 0 ∷ 0 ∷ 0 ∷ 0 ∷ 0 ∷ 0 ∷ 0 ∷ 0 ∷ 0
    ∷ 0 ∷ 0 ∷ 0 ∷ 0 ∷ 0 ∷ 0 ∷ 0 ∷ 0 ∷ 33 ∷ 34 ∷ 35 ∷ 36 ∷ 1 ∷ 0 ∷ 2 ∷ 0
    ∷ 104 ∷ 242 ∷ 61 ∷ 105 ∷ 169 ∷ 251 ∷ 104 ∷ 142 ∷ 0 ∷ 0 ∷ 0 ∷ 0 ∷ 0 ∷ 0 ∷ 0 ∷ 0
    ∷ 136 ∷ 9 ∷ 26 ∷ 43 ∷ 60 ∷ 77 ∷ 94 ∷ 111 ∷ 0 ∷ 0 ∷ 0 ∷ 0 ∷ 0 ∷ 0 ∷ 0 ∷ 0
    ∷ 0 ∷ 0 ∷ 0 ∷ 0 ∷ 0 ∷ 0 ∷ 0 ∷ 0 ∷ 0 ∷ 0 ∷ 0 ∷ 0 ∷ 0 ∷ 0 ∷ 0 ∷ 0
    ∷ 0 ∷ 0 ∷ 0 ∷ 0 ∷ 0 ∷ 0 ∷ 0 ∷ 0 ∷ 0 ∷ 0 ∷ 0 ∷ 0 ∷ 0 ∷ 0 ∷ 0 ∷ 0
    ∷ 49 ∷ 50 ∷ 51 ∷ 52 ∷ 2 ∷ 0 ∷ 3 ∷ 0 ∷ 31 ∷ 105 ∷ 25 ∷ 201 ∷ 238 ∷ 105 ∷ 34 ∷ 94
    ∷ 18 ∷ 0 ∷ 0 ∷ 0 ∷ 0 ∷ 0 ∷ 0 ∷ 0 ∷ 119 ∷ 85 ∷ 168 ∷ 75 ∷ 155 ∷ 252 ∷ 38 ∷ 146
    ∷ 9 ∷ 0 ∷ 0 ∷ 0 ∷ 0 ∷ 0 ∷ 0 ∷ 0 ∷ 59 ∷ 43 ∷ 28 ∷ 75 ∷ 196 ∷ 234 ∷ 16 ∷ 0
    ∷ 108 ∷ 75 ∷ 170 ∷ 194 ∷ 76 ∷ 226 ∷ 224 ∷ 11 ∷ 9 ∷ 0 ∷ 0 ∷ 0 ∷ 0 ∷ 0 ∷ 0 ∷ 0
    ∷ 1 ∷ 157 ∷ 170 ∷ 111 ∷ 66 ∷ 160 ∷ 9 ∷ 192 ∷ 65 ∷ 66 ∷ 67 ∷ 68 ∷ 3 ∷ 0 ∷ 4 ∷ 0
    ∷ 37 ∷ 83 ∷ 173 ∷ 10 ∷ 192 ∷ 196 ∷ 60 ∷ 175 ∷ 18 ∷ 0 ∷ 0 ∷ 0 ∷ 0 ∷ 0 ∷ 0 ∷ 0
    ∷ 119 ∷ 85 ∷ 168 ∷ 75 ∷ 155 ∷ 252 ∷ 38 ∷ 146 ∷ 9 ∷ 0 ∷ 0 ∷ 0 ∷ 0 ∷ 0 ∷ 0 ∷ 0
    ∷ 235 ∷ 10 ∷ 173 ∷ 157 ∷ 131 ∷ 177 ∷ 18 ∷ 0 ∷ 220 ∷ 102 ∷ 5 ∷ 189 ∷ 92 ∷ 227 ∷ 224 ∷ 11
    ∷ 9 ∷ 0 ∷ 0 ∷ 0 ∷ 0 ∷ 0 ∷ 0 ∷ 0 ∷ 231 ∷ 139 ∷ 82 ∷ 100 ∷ 68 ∷ 51 ∷ 34 ∷ 17 ∷ []

-- a record that passes every gate of the request below, and the request and its policy
abbrev pub passes : List ℕ
passes =
    1 ∷ 0 ∷ 0 ∷ 0 ∷ 0 ∷ 0 ∷ 40 ∷ 35 ∷ 64 ∷ 31 ∷ 1 ∷ 50 ∷ 0 ∷ 0 ∷ 0 ∷ 7
    ∷ 0 ∷ 0 ∷ 0 ∷ 0 ∷ 0 ∷ 0 ∷ 0 ∷ 5 ∷ 0 ∷ 0 ∷ 0 ∷ 0 ∷ 0 ∷ 0 ∷ 0 ∷ 64
    ∷ 66 ∷ 15 ∷ 0 ∷ 0 ∷ 0 ∷ 0 ∷ 0 ∷ 0 ∷ 0 ∷ 0 ∷ 0 ∷ 0 ∷ 0 ∷ 0 ∷ 0 ∷ []

abbrev pub gate_request : List ℕ
gate_request =
    1 ∷ 0 ∷ 0 ∷ 0 ∷ 0 ∷ 0 ∷ 0 ∷ 0 ∷ 1 ∷ 0 ∷ 0 ∷ 0 ∷ 100 ∷ 0 ∷ 0 ∷ 0
    ∷ 100 ∷ 0 ∷ 0 ∷ 0 ∷ 16 ∷ 39 ∷ 0 ∷ 0 ∷ 0 ∷ 0 ∷ 0 ∷ 0 ∷ 200 ∷ 0 ∷ 0 ∷ 0
    ∷ 0 ∷ 0 ∷ 0 ∷ 0 ∷ 232 ∷ 3 ∷ 16 ∷ 39 ∷ 136 ∷ 19 ∷ 99 ∷ 0 ∷ 0 ∷ 0 ∷ 6 ∷ 0
    ∷ 0 ∷ 0 ∷ 0 ∷ 0 ∷ 0 ∷ 0 ∷ 11 ∷ 0 ∷ 0 ∷ 0 ∷ 0 ∷ 0 ∷ 0 ∷ 0 ∷ 4 ∷ 0
    ∷ 0 ∷ 0 ∷ 0 ∷ 0 ∷ 0 ∷ 0 ∷ []

abbrev pub gate_policy : List ℕ
gate_policy =
    7 ∷ 0 ∷ 0 ∷ 0 ∷ 0 ∷ 0 ∷ 0 ∷ 0 ∷ 3 ∷ 0 ∷ 0 ∷ 0 ∷ 0 ∷ 0 ∷ 0 ∷ 0
    ∷ 40 ∷ 35 ∷ 208 ∷ 7 ∷ 16 ∷ 39 ∷ 60 ∷ 0 ∷ 0 ∷ 0 ∷ 0 ∷ 0 ∷ 0 ∷ 0 ∷ []
