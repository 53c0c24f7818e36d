mod Reserved
