pub mod OpenAreas
