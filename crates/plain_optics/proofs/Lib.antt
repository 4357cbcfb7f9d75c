mod PowerLaws
mod WeightLaws
